-- The values that came into a stripe with a step, and those that left it, as a desk reports them to its driver.
--     MovesMade            the values as a driver sees them: whether the key's entry has a new value, the value that it lost, the
--                          entry that was evicted for the step, and why the step's own entry was evicted after it, if it was
--     nothing_moved        no value came, and none left
--     holds_value          an entry has this value
--     is_new_value         a key's entry has a value that it didn't have before
--     value_lost           the value that it had before, and doesn't have any more
--     victim_entry         a victim with the value that it had
--     KeepsOtherEntries    the entries of all keys but the step's own and the victim's are as they were
--     MovesValues          the values that a step at a key moved, if this was its victim
--     HasMovesIfDone       the values that the step of a first phase moved, if the call is done
--     value_dropped        the value that an entry had, if it is gone
--     moves_of_drop        the eviction of an entry because its key was invalidated, by the value that it had; nothing, without one
--     DropsValue           an invalidation of a key, or a withdrawal, moved the value of the key's entry, if that was evicted, and
--                          no other one
--     swept_key            the key whose entry a sweep evicts
--     SweepsValue          a sweep moved the value of that entry, and no other one
use Rattle.std.specs.Prelude.{◌≡◌, ◌==◌, ◌&&◌, Bool, false, not, Option, None, Some, is_some, option_map, if◌then◌else◌}
use Rattle.std.specs.Cmp.Lexicographic.{pointwise}
use Rattle.jc_model.specs.Cache.{Bytes, entry_at}
use Rattle.jc_model.specs.declared.event.Cause.{Cause}
use Rattle.jc_model.specs.declared.event.Cause.TheVariants.{Invalidated}
use Rattle.jc_stripe.specs.declared.begun.Eviction.{Eviction}
use Rattle.jc_stripe.specs.declared.begun.Started.{Started}
use Rattle.jc_stripe.specs.declared.begun.Started.TheVariants as started
use Rattle.jc_stripe.specs.State.{State}
use Rattle.jc_stripe.specs.OrderOfUse.{least_used}
use Rattle.jc_stripe.specs.Invalidating.{has_place}

pub record MovesMade : Type 0 where
  pub kept : Bool
  pub left : Option Bytes
  pub victim : Option (Bytes × Bytes)
  pub own : Option Cause

abbrev pub nothing_moved : MovesMade
nothing_moved = record { kept = false; left = None; victim = None; own = None }

abbrev pub holds_value : Option Bytes → Bytes → Bool
holds_value None value = false
holds_value (Some held) value = pointwise ◌==◌ held value

abbrev pub is_new_value : Option Bytes → Option Bytes → Bool
is_new_value before None = false
is_new_value before (Some value) = not (holds_value before value)

abbrev pub value_lost : Option Bytes → Option Bytes → Option Bytes
value_lost None after = None
value_lost (Some value) after = if holds_value after value then None else Some value

abbrev pub victim_entry : State → Option Bytes → Option (Bytes × Bytes)
victim_entry state None = None
victim_entry state (Some key) = option_map (λ value. (key, value)) (entry_at state.cache key)

abbrev pub KeepsOtherEntries : State → Bytes → Option Bytes → State → Type 0
KeepsOtherEntries old key victim new =
    (other : Bytes) → pointwise ◌==◌ key other ≡ false → (victim ≡ Some other → ⊥)
    → entry_at new.cache other ≡ entry_at old.cache other

pub record MovesValues (old : State) (key : Bytes) (victim : Option Bytes) (evicted : Option Eviction) (moves : MovesMade)
    (new : State) : Type 0 where
  pub kept : moves.kept ≡ is_new_value (entry_at old.cache key) (entry_at new.cache key)
  pub left : moves.left ≡ value_lost (entry_at old.cache key) (entry_at new.cache key)
  pub victim_is : moves.victim ≡ victim_entry old victim
  pub own_is : moves.own ≡ option_map (λ e. e.cause) evicted
  pub others : KeepsOtherEntries old key victim new

abbrev pub HasMovesIfDone : State → Bytes → Started → MovesMade → State → Type 0
HasMovesIfDone old key (started.Done step) moves new = MovesValues old key step.victim step.evicted moves new
HasMovesIfDone old key (started.Asks ticket) moves new = Unit {0}
HasMovesIfDone old key (started.Joined join) moves new = Unit {0}
HasMovesIfDone old key (started.Refused refusal) moves new = Unit {0}

-- What goes without a step.

abbrev pub value_dropped : Option Bytes → Option Bytes → Option Bytes
value_dropped before None = before
value_dropped before (Some value) = None

abbrev pub moves_of_drop : Option Bytes → MovesMade
moves_of_drop left = record { kept = false; left = left; victim = None; own = if is_some left then Some Invalidated else None }

pub record DropsValue (old : State) (key : Bytes) (moves : MovesMade) (new : State) : Type 0 where
  pub moves_are : moves ≡ moves_of_drop (value_dropped (entry_at old.cache key) (entry_at new.cache key))
  pub others : KeepsOtherEntries old key None new

abbrev pub swept_key : State → Option Bytes
swept_key state = if state.shut && has_place state then least_used state else None

pub record SweepsValue (old : State) (moves : MovesMade) (new : State) : Type 0 where
  pub moves_are : moves ≡ record nothing_moved { victim = victim_entry old (swept_key old) }
  pub others : (other : Bytes) → (swept_key old ≡ Some other → ⊥) → entry_at new.cache other ≡ entry_at old.cache other
