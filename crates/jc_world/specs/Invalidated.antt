-- What an invalidation of a key leaves of it, as laws over every run of a world.
--     is_marked_in, is_marked_at
--                     a key is reserved and was invalidated since, at a stripe and in a world
--     Drops           an event after which nothing is left of an invalidated key: it invalidates a key that isn't reserved, or ends
--                     the reservation of a marked one
--     TellsInvalidated
--                     after such an event there is neither an entry nor a reservation of the key. So it isn't untold, whatever
--                     others have written before
--     MarksReserved   an invalidation of a reserved key fits, and marks it
--     StaysCoherentInvalidated
--                     from such an event on, as long as nobody else writes the key and nobody lies about it: what is cached for it
--                     is the store's, unless its writer has changed the store and its call isn't committed
--     ForgetsInvalidated
--                     what is cached for a key after its eviction is what the parts of the history since then leave of an empty
--                     cache: what was loaded or put before it counts no longer
use Rattle.std.specs.Prelude.{◌≡◌, List, ◌∷◌, ◌++◌, Bool, true, false, Option, None, Some}
use Rattle.std.specs.FinMap.{empty, get}
use Rattle.jc_model.specs.Cache.{Bytes, Cache, entry_at}
use Rattle.jc_model.specs.Group.{Part as HistoryPart, Dropped, cache_after_parts}
use Rattle.jc_stripe.specs.State.{State, is_marked}
use Rattle.jc_world.specs.declared.event.Part.{Part}
use Rattle.jc_world.specs.declared.event.Shown.{Shown}
use Rattle.jc_world.specs.declared.event.WorldEvent.{WorldEvent}
use Rattle.jc_world.specs.declared.event.WorldEvent.TheVariants as event
use Rattle.jc_world.specs.World.{WorldState, stripe_for, has_any, is_untold}
use Rattle.jc_world.specs.Fits.{fits}
use Rattle.jc_world.specs.Runs.{Step}
use Rattle.jc_world.specs.Coherent.{IsCoherentAt, all_hold}
use Rattle.jc_world.specs.Headline.{Reaches, reopens}
use Rattle.jc_world.specs.Told.{RunsTrueTo}

abbrev pub is_marked_in : Option State → Bytes → Bool
is_marked_in None key = false
is_marked_in (Some s) key = is_marked s key

abbrev pub is_marked_at : WorldState → Bytes → Bool
is_marked_at w key = is_marked_in (stripe_for w key) key

-- the one at once, the other when its call ends
abbrev pub Drops : WorldState → Bytes → WorldEvent → Type 0
Drops w key (event.Invalidate k) = (k ≡ key) × (get w.parts key ≡ None)
Drops w key (event.Commit call k) = (k ≡ key) × (is_marked_at w key ≡ true)
Drops w key (event.Withdraw call k) = (k ≡ key) × (is_marked_at w key ≡ true)
Drops w key e = ⊥

abbrev pub TellsInvalidated : Type 0
TellsInvalidated =
    (opening : WorldState) (events : List WorldEvent) (seen : List Shown) (old new : WorldState)
    (e : WorldEvent) (key : Bytes) (s : Shown)
    → Reaches opening events seen old → Drops old key e → fits old e ≡ true → Step old e s new
    → (has_any new key ≡ false) × (is_untold new key ≡ false)

abbrev pub MarksReserved : Type 0
MarksReserved =
    (opening : WorldState) (events : List WorldEvent) (seen : List Shown) (old new : WorldState)
    (key : Bytes) (part : Part) (s : Shown)
    → Reaches opening events seen old → get old.parts key ≡ Some part → Step old (event.Invalidate key) s new
    → (fits old (event.Invalidate key) ≡ true) × (is_marked_at new key ≡ true)

abbrev pub StaysCoherentInvalidated : Type 0
StaysCoherentInvalidated =
    (opening : WorldState) (before events : List WorldEvent) (seen_before seen : List Shown)
    (old forgotten new : WorldState) (e : WorldEvent) (key : Bytes) (s : Shown)
    → Reaches opening before seen_before old → Drops old key e → fits old e ≡ true → Step old e s forgotten
    → RunsTrueTo key forgotten events seen new → reopens seen ≡ false
    → all_hold new ≡ true → IsCoherentAt new key

-- in each list of parts of a history
abbrev pub ForgetsInvalidated : Type 0
ForgetsInvalidated =
    (cache : Cache) (before after : List HistoryPart) (key : Bytes)
    → entry_at (cache_after_parts cache (before ++ Dropped key ∷ after)) key
    ≡ entry_at (cache_after_parts empty after) key
