-- Coherence of a world, the second half of the headline: what is cached is the store's, but for keys whose write isn't committed
-- yet.
--     IsCoherentAt   what is cached for a key is the store's, unless its writer has changed the store and its call isn't committed
--     Coherent       that is so of each key
--     CoherentAsTold that is so of each key that isn't untold
--     all_hold       write-through is on, and the last opening was coherent, but for keys that were untold before
use Rattle.std.specs.Prelude.{◌≡◌, Bool, false, ◌&&◌, Some, IfSome}
use Rattle.std.specs.FinMap.{get}
use Rattle.jc_model.specs.Cache.{Bytes, entry_at}
use Rattle.jc_world.specs.World.{WorldState, cached_entry, has_progress, has_changed, is_untold}

abbrev pub IsCoherentAt : WorldState → Bytes → Type 0
IsCoherentAt w key = has_progress has_changed (get w.parts key) ≡ false
    → IfSome (cached_entry w key) (λ value. entry_at w.store key ≡ Some value)

abbrev pub Coherent : WorldState → Type 0
Coherent w = (key : Bytes) → IsCoherentAt w key

-- but for what others have written, or lied about, and the cache wasn't told
abbrev pub CoherentAsTold : WorldState → Type 0
CoherentAsTold w = (key : Bytes) → is_untold w key ≡ false → IsCoherentAt w key

abbrev pub all_hold : WorldState → Bool
all_hold w = w.config.write_through && w.premises.opening
