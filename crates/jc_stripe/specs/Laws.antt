-- The laws of a stripe's phases, over every state: what is reached stays reached, histories only grow, and a reserved key's entry
-- stays.
--     StaysReached      each phase leads from a reached state to a reached one
--     OpenedIsReached   a state in which nothing has happened yet is reached, whatever it opens with
--     ReachedIsLegal    a reached state's history is legal from its opening
--     IsSameStripe      one state is of the same stripe as another: of the same shape, number, origin and opening
--     Extends           one state comes after another: of the same stripe, with the earlier history as a prefix of its own
--     Grows             a phase appends to the history of its stripe and changes nothing that is in it
--     KeepsReserved     the entry of a reserved key stays in every first phase and every commit but its own; a withdrawal and a
--                       pick-up leave the whole cache
use Rattle.std.specs.Prelude.{◌≡◌, List, ◌++◌, true}
use Rattle.jc_types.specs.declared.caller.Caller.{Caller}
use Rattle.jc_model.specs.declared.event.Event.{Event}
use Rattle.jc_model.specs.declared.event.Op.{Op}
use Rattle.jc_model.specs.declared.event.Out.{Out}
use Rattle.jc_model.specs.Cache.{Bytes, entry_at}
use Rattle.jc_model.specs.Legal.{Legal}
use Rattle.jc_stripe.specs.declared.ticket.Reservation.{Reservation}
use Rattle.jc_stripe.specs.Outcomes.{Begun, StepDone}
use Rattle.jc_stripe.specs.Polled.{Polled}
use Rattle.jc_stripe.specs.Tickets.{JoinClaim}
use Rattle.jc_stripe.specs.State.{State, is_reserved, without_reservation}
use Rattle.jc_stripe.specs.Phases.{MayBegin, Begins, Commits, Withdraws, PicksUp}
use Rattle.jc_stripe.specs.Invalidating.{Ends, GivesBack, Invalidates, InvalidatesAll, Sweeps}
use Rattle.jc_stripe.specs.Reached.{IsReached, IsOpened}

pub record StaysReached : Type 0 where
  pub begins : (old new : State) (caller : Caller) (key : Bytes) (op : Op) (b : Begun) → IsReached old → MayBegin old caller key
      → Begins old caller key op b new → IsReached new
  pub commits : (old new : State) (r : Reservation) (out : Out) (done : StepDone) → IsReached old
      → Commits old r out done new → IsReached new
  pub withdraws : (old new : State) (r : Reservation) → IsReached old → Withdraws old r new → IsReached new
  pub picks_up : (old new : State) (join : JoinClaim) (p : Polled) → IsReached old → PicksUp old join p new → IsReached new
  pub ends : (old new : State) (r : Reservation) (out : Out) (done : StepDone) → IsReached old
      → Ends old r out done new → IsReached new
  pub gives_back : (old new : State) (r : Reservation) → IsReached old → GivesBack old r new → IsReached new
  pub invalidates : (old new : State) (key : Bytes) → IsReached old → Invalidates old key new → IsReached new
  pub invalidates_all : (old new : State) → IsReached old → InvalidatesAll old new → IsReached new
  pub sweeps : (old new : State) → IsReached old → Sweeps old new → IsReached new

abbrev pub OpenedIsReached : Type 0
OpenedIsReached = (state : State) → IsOpened state → IsReached state

abbrev pub ReachedIsLegal : Type 0
ReachedIsLegal = (state : State) → IsReached state → Legal state.config state.opening state.history

-- the later state is of the same stripe
pub record IsSameStripe (old new : State) : Type 0 where
  pub config : new.config ≡ old.config
  pub stripe : new.stripe ≡ old.stripe
  pub origin : new.origin ≡ old.origin
  pub lives : new.lives ≡ old.lives
  pub ended : new.ended ≡ old.ended
  pub opening : new.opening ≡ old.opening

-- and its history begins with the earlier one
pub record Extends (old new : State) : Type 0 where
  pub same : IsSameStripe old new
  pub more : List Event
  pub history : new.history ≡ old.history ++ more

pub record Grows : Type 0 where
  pub begins : (old new : State) (caller : Caller) (key : Bytes) (op : Op) (b : Begun)
      → Begins old caller key op b new → Extends old new
  pub commits : (old new : State) (r : Reservation) (out : Out) (done : StepDone) → Commits old r out done new → Extends old new
  pub withdraws : (old new : State) (r : Reservation) → Withdraws old r new → Extends old new
  pub picks_up : (old new : State) (join : JoinClaim) (p : Polled) → PicksUp old join p new → Extends old new

pub record KeepsReserved : Type 0 where
  pub begins : (old new : State) (caller : Caller) (key : Bytes) (op : Op) (b : Begun) (q : Bytes) → IsReached old
      → Begins old caller key op b new → is_reserved old q ≡ true → entry_at new.cache q ≡ entry_at old.cache q
  pub commits : (old new : State) (r : Reservation) (out : Out) (done : StepDone) (q : Bytes) → IsReached old
      → Commits old r out done new → is_reserved (without_reservation old r.key) q ≡ true
      → entry_at new.cache q ≡ entry_at old.cache q
  pub withdraws : (old new : State) (r : Reservation) → Withdraws old r new → new.cache ≡ old.cache
  pub picks_up : (old new : State) (join : JoinClaim) (p : Polled) → PicksUp old join p new → new.cache ≡ old.cache
