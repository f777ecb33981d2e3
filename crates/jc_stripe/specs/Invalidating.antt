-- The invalidation of a key at its stripe: no call that begins later is answered from what was cached or reserved of it before.
--     dropped_event        the eviction of an invalidated key
--     has_place            a place of the history is free for an eviction
--     without_entry        the state after the eviction of an invalidated key
--     is_dropped           an entry is evicted with the end of its key's reservation: the key was marked, and has one
--     end_with             the state once a reservation is over: the key's entry is evicted, if it was marked and has one
--     told_drop            the step of a reservation that is over: it tells that eviction, too
--     Ends                 the last phase: the reservation is committed, and if its key was invalidated, its entry is evicted
--     GivesBack            a reservation is withdrawn, and if its key was invalidated, its entry is evicted
--     drop_or_shut         the key's entry is evicted; without a place for that no call begins any more
--     after_invalidation   a reserved key is marked; otherwise its entry is evicted, if it has one
--     Invalidates          the phase
--     after_invalidation_of_all, InvalidatesAll    each reserved key is marked, and the stripe is shut
--     after_sweep          a shut stripe evicts the least recently used entry that isn't reserved, if a place is free for it; when
--                          there is none left, calls begin again
--     Sweeps               the phase
--     is_forgotten         no call that begins is answered from an entry or a load of the key: it is marked, or it isn't reserved
--                          and has no entry or the stripe is shut
use Rattle.std.specs.Prelude.{◌≡◌, ◌+◌, [], ◌∷◌, ◌++◌, length, Bool, true, false, not, ◌&&◌, ◌||◌, Option, None, Some, is_some}
use Rattle.std.specs.Prelude.{is_none, nat_le, if◌then◌else◌}
use Rattle.std.specs.FinMap.{remove}
use Rattle.jc_types.specs.declared.limits.TheConstants.{HIT_PLACES}
use Rattle.jc_model.specs.declared.event.Out.{Out}
use Rattle.jc_model.specs.declared.event.Cause.TheVariants.{Invalidated}
use Rattle.jc_model.specs.declared.event.Event.{Event}
use Rattle.jc_model.specs.declared.event.Event.TheVariants.{Evict}
use Rattle.jc_model.specs.Cache.{Bytes, entry_at}
use Rattle.jc_stripe.specs.declared.ticket.Reservation.{Reservation}
use Rattle.jc_stripe.specs.Outcomes.{StepDone}
use Rattle.jc_stripe.specs.State.{State, promised, is_reserved, is_marked, with_mark}
use Rattle.jc_stripe.specs.OrderOfUse.{least_used, pinned}
use Rattle.jc_stripe.specs.Phases.{Commits, Withdraws}

-- 1. The eviction of an invalidated key.

abbrev pub dropped_event : Bytes → Event
dropped_event key = Evict key Invalidated

abbrev pub has_place : State → Bool
has_place state = nat_le (length state.history + promised state + HIT_PLACES) state.config.history

abbrev pub without_entry : State → Bytes → State
without_entry old key = record old { cache = remove old.cache key; history = old.history ++ dropped_event key ∷ [] }

-- 2. The end of a reservation. What follows it is in the places that were reserved for it.

abbrev pub is_dropped : Bool → State → Bytes → Bool
is_dropped marked ended key = marked && is_some (entry_at ended.cache key)

abbrev pub end_with : Bool → State → Bytes → State
end_with marked ended key = if is_dropped marked ended key then without_entry ended key else ended

abbrev pub told_drop : Bool → State → Bytes → StepDone → StepDone
told_drop marked ended key done =
    if is_dropped marked ended key
    then record done { evicted = Some (record { cause = Invalidated; place = length ended.history }) } else done

abbrev pub Ends : State → Reservation → Out → StepDone → State → Type 0
Ends old r out done new =
    (ended : State) × (step : StepDone) × Commits old r out step ended
    × (done ≡ told_drop (is_marked old r.key) ended r.key step) × (new ≡ end_with (is_marked old r.key) ended r.key)

abbrev pub GivesBack : State → Reservation → State → Type 0
GivesBack old r new = (ended : State) × Withdraws old r ended × (new ≡ end_with (is_marked old r.key) ended r.key)

-- 3. An invalidation. It is never refused.

abbrev pub drop_or_shut : State → Bytes → State
drop_or_shut old key = if has_place old then without_entry old key else record old { shut = true }

abbrev pub after_invalidation : State → Bytes → State
after_invalidation old key =
    if is_reserved old key then with_mark old key
    else (if is_some (entry_at old.cache key) then drop_or_shut old key else old)

abbrev pub Invalidates : State → Bytes → State → Type 0
Invalidates old key new = new ≡ after_invalidation old key

-- each reserved key is marked, and the other entries go by sweeps, before anybody begins
abbrev pub after_invalidation_of_all : State → State
after_invalidation_of_all old = record old { marked = pinned old.reservations; shut = true }

abbrev pub InvalidatesAll : State → State → Type 0
InvalidatesAll old new = new ≡ after_invalidation_of_all old

-- 4. A shut stripe, and how calls begin again.

abbrev pub sweep : State → Option Bytes → State
sweep old None = record old { shut = false }
sweep old (Some key) = if has_place old then without_entry old key else old

abbrev pub after_sweep : State → State
after_sweep old = if old.shut then sweep old (least_used old) else old

abbrev pub Sweeps : State → State → Type 0
Sweeps old new = new ≡ after_sweep old

-- 5. What an invalidation promises: the law `Forgets`, in specs/Forgetting.

abbrev pub is_forgotten : State → Bytes → Bool
is_forgotten state key = is_marked state key || (not (is_reserved state key) && (state.shut || is_none (entry_at state.cache key)))
