-- The visits of a call with many keys at a stripe, by its seat's lendings.
--     IsPhaseAt    a phase of the call at this key: a first phase, a commit or a pick-up
--     OnlyPhases   each of the seat's lendings between two views is such a phase, at a key that fits this condition; or it has
--                  left the stripe as it found it, except that a full generation may have ended, or a shut stripe been swept. No
--                  take has missed the stripe
use Rattle.std.specs.Prelude.{◌≡◌, ◌⊎◌, List}
use Rattle.std.specs.List.{AllByRecursion}
use Rattle.jc_types.specs.declared.caller.Caller.{Caller}
use Rattle.jc_model.specs.Cache.{Bytes}
use Rattle.jc_model.specs.declared.event.Op.{Op}
use Rattle.jc_model.specs.declared.event.Out.{Out}
use Rattle.jc_stripe.specs.State.{State}
use Rattle.jc_stripe.specs.Invalidating.{Ends}
use Rattle.jc_stripe.specs.Tickets.{JoinClaim}
use Rattle.jc_stripe.specs.Outcomes.{Begun, StepDone}
use Rattle.jc_stripe.specs.Polled.{Polled}
use Rattle.jc_stripe.specs.declared.ticket.Reservation.{Reservation}
use Rattle.jc_lock.specs.declared.view.View.{View}
use Rattle.jc_engine.specs.Doors.{MakesWay}
use Rattle.jc_engine.specs.Needs.{PicksUpLate, StartsAt}
use Rattle.jc_cache.specs.Turns.{HasLent}

abbrev pub IsPhaseAt : Caller → Bytes → State → State → Type 0
IsPhaseAt caller key found left =
    ((op : Op) × (begun : Begun) × StartsAt caller key op begun found left)
    ⊎ ((r : Reservation) × (out : Out) × (done : StepDone) × (r.caller ≡ caller) × (r.key ≡ key) × Ends found r out done left)
    ⊎ ((join : JoinClaim) × (picked : Polled) × (join.caller ≡ caller) × (join.key ≡ key) × PicksUpLate found join picked left)

pub record OnlyPhases (caller : Caller) (at : Bytes → Type 0) (before after : View) : Type 0 where
  pub row : List (State × State)
  pub lent : HasLent before row after
  pub each : AllByRecursion (λ (p : State × State). MakesWay p.0 p.1 ⊎ ((key : Bytes) × at key × IsPhaseAt caller key p.0 p.1)) row
