-- The place at which a call's step was made, from the state in which its last phase found the stripe.
--     IsNext     the place of a step at a key that was made in this state: it is the next event of the state's whole history, or
--                it follows the eviction that made room for the key, which was missing
use Rattle.std.specs.Prelude.{◌≡◌, ◌⊎◌, ◌+◌, ℕ, List, length, None, Some, slice_get}
use Rattle.jc_model.specs.Cache.{Bytes, entry_at}
use Rattle.jc_model.specs.declared.event.Cause.TheVariants.{Full}
use Rattle.jc_model.specs.declared.event.Event.{Event}
use Rattle.jc_model.specs.declared.event.Event.TheVariants.{Evict}
use Rattle.jc_stripe.specs.State.{State}
use Rattle.jc_stripe.specs.Generations.{whole_history}

abbrev pub IsNext : State → Bytes → ℕ → List Event → Type 0
IsNext state key place history =
    (place ≡ length (whole_history state))
    ⊎ ((place ≡ length (whole_history state) + 1) × (entry_at state.cache key ≡ None)
    × ((victim : Bytes) × (slice_get history (length (whole_history state)) ≡ Some (Evict victim Full))))
