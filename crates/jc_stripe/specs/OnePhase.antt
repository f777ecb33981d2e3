-- At most one phase of one session at a stripe, from one state to another; the session's own steps; and what a phase doesn't
-- change.
--     FirstPhase      a first phase of a session's call that may begin
--     LastPhase       the commit of a reservation of the session, with what follows if its key was invalidated
--     Withdrawal      a reservation of the session is given back
--     PickUp          a joiner of the session asks for its answer
--     Forgetting      a phase that is of no session: a key is invalidated, or all are, or a shut stripe evicts an entry
--     IsPhaseOf       at most one phase of this session, or of none, leads from one state to another
--     is_answered     a joiner was answered, and has not picked up its answer
--     is_parked       a step is parked: it was appended for a joiner that has not picked up its answer
--     is_own_step     an event is a step of the session that is not parked
--     own_steps       the session's own steps: those of its steps that are not parked
--     GainsOwn        the own steps are as before with one more, which is the event at this place
--     is_of_others    a caller is of another session
--     join_claim      a joiner as its join: the caller, the key and the load
--     IsUniform       the effect of one phase of a session on a stripe: the later state is reached and of the same stripe, its
--                     history grows, the numbers of reservations don't fall; the session's own steps are the same or one more;
--                     other sessions' own steps, reservations and joins stay, and so does the entry of a key that stays reserved
--     OnePhase        the law: at most one phase of a session, or of none, from a reached state, is uniform
use Rattle.std.specs.Prelude.{◌≡◌, ◌≤◌, ◌==◌, ◌⊎◌, ℕ, List, ◌∷◌, ◌++◌, filter, map, Bool, true, false, not, ◌&&◌, Some, slice_get}
use Rattle.std.specs.List.{list_any}
use Rattle.jc_types.specs.declared.caller.Caller.{Caller}
use Rattle.jc_model.specs.declared.event.Op.{Op}
use Rattle.jc_model.specs.declared.event.Out.{Out}
use Rattle.jc_model.specs.declared.event.Event.{Event}
use Rattle.jc_model.specs.declared.event.Event.TheVariants.{Step, Evict}
use Rattle.jc_model.specs.Cache.{Bytes, entry_at}
use Rattle.jc_inflight.specs.declared.joiner.Joiner.{Joiner}
use Rattle.jc_inflight.specs.declared.joiner.JoinState.{JoinState}
use Rattle.jc_inflight.specs.declared.joiner.JoinState.TheVariants.{Waiting, Answered, Again}
use Rattle.jc_inflight.specs.Joining.{belongs_to}
use Rattle.jc_stripe.specs.declared.ticket.Reservation.{Reservation}
use Rattle.jc_stripe.specs.Outcomes.{Begun, StepDone}
use Rattle.jc_stripe.specs.Polled.{Polled}
use Rattle.jc_stripe.specs.Tickets.{JoinClaim}
use Rattle.jc_stripe.specs.State.{State, is_reserved}
use Rattle.jc_stripe.specs.Phases.{MayBegin, Begins, PicksUp}
use Rattle.jc_stripe.specs.Invalidating.{Ends, GivesBack, Invalidates, InvalidatesAll, Sweeps}
use Rattle.jc_stripe.specs.Reached.{IsReached}
use Rattle.jc_stripe.specs.Laws.{Extends}

-- 1. One phase of a session.

pub record FirstPhase (session : ℕ) (old new : State) : Type 0 where
  pub caller : Caller
  pub key : Bytes
  pub op : Op
  pub begun : Begun
  pub own : caller.session ≡ session
  pub may : MayBegin old caller key
  pub begins : Begins old caller key op begun new

pub record LastPhase (session : ℕ) (old new : State) : Type 0 where
  pub reservation : Reservation
  pub out : Out
  pub done : StepDone
  pub own : reservation.caller.session ≡ session
  pub ends : Ends old reservation out done new

pub record Withdrawal (session : ℕ) (old new : State) : Type 0 where
  pub reservation : Reservation
  pub own : reservation.caller.session ≡ session
  pub gives_back : GivesBack old reservation new

pub record PickUp (session : ℕ) (old new : State) : Type 0 where
  pub join : JoinClaim
  pub picked : Polled
  pub own : join.caller.session ≡ session
  pub picks_up : PicksUp old join picked new

abbrev pub Forgetting : State → State → Type 0
Forgetting old new = ((key : Bytes) × Invalidates old key new) ⊎ InvalidatesAll old new ⊎ Sweeps old new

-- at most one phase of this session, or of no session
abbrev pub IsPhaseOf : ℕ → State → State → Type 0
IsPhaseOf session old new =
    (new ≡ old) ⊎ FirstPhase session old new ⊎ LastPhase session old new ⊎ Withdrawal session old new ⊎ PickUp session old new
    ⊎ Forgetting old new

-- 2. Own steps.

abbrev pub is_answered : JoinState → Bool
is_answered Waiting = false
is_answered (Answered place shared_with) = true
is_answered Again = false

abbrev pub is_parked : List Joiner → Caller → Bytes → Bool
is_parked joiners caller key = list_any (λ j. belongs_to caller key j && is_answered j.state) joiners

abbrev pub is_own_step : ℕ → List Joiner → Event → Bool
is_own_step session joiners (Step caller op key out shared_with reply) =
    (caller.session == session) && not (is_parked joiners caller key)
is_own_step session joiners (Evict key cause) = false

abbrev pub own_steps : ℕ → State → List Event
own_steps session state = filter (is_own_step session state.joiners) state.history

-- the own steps are as before with one more, which is the event at this place
pub record GainsOwn (session : ℕ) (old new : State) (event : Event) (place : ℕ) : Type 0 where
  pub there : slice_get new.history place ≡ Some event
  pub before : List Event
  pub after : List Event
  pub was : own_steps session old ≡ before ++ after
  pub own : own_steps session new ≡ before ++ event ∷ after

-- 3. The law.

abbrev pub is_of_others : ℕ → Caller → Bool
is_of_others session caller = not (caller.session == session)

abbrev pub join_claim : Joiner → JoinClaim
join_claim j = record { caller = j.caller; key = j.key; load = j.load }

pub record IsUniform (session : ℕ) (old new : State) : Type 0 where
  pub reached : IsReached new
  pub grows : Extends old new
  pub next : old.next ≤ new.next
  pub own : (own_steps session new ≡ own_steps session old) ⊎ ((event : Event) × (place : ℕ) × GainsOwn session old new event place)
  pub others : (other : ℕ) → (other == session) ≡ false → own_steps other new ≡ own_steps other old
  pub reservations : filter (λ r. is_of_others session r.caller) new.reservations
      ≡ filter (λ r. is_of_others session r.caller) old.reservations
  pub joins : filter (λ j. is_of_others session j.caller) (map join_claim new.joiners)
      ≡ filter (λ j. is_of_others session j.caller) (map join_claim old.joiners)
  pub entries : (key : Bytes) → is_reserved old key ≡ true → is_reserved new key ≡ true
      → entry_at new.cache key ≡ entry_at old.cache key

abbrev pub OnePhase : Type 0
OnePhase = (session : ℕ) (old new : State) → IsReached old → IsPhaseOf session old new → IsUniform session old new
