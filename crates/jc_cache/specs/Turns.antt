-- The visits of a session at a stripe, by its seat's lendings: how it found the stripe and how it left it, one after another.
--     HasLent         the seat has these lendings more, and each of its takes found the stripe
--     starting_now    the turn of a first phase that returns each refusal
--     picking_now     the turn of a pick-up that doesn't wait
--     picking_late    that of one that waits
--     withdrawing     the turn of a withdrawal
--     looking         the turn of a look, at the first take
use Rattle.std.specs.Prelude.{◌≡◌, List, ◌++◌, true, false}
use Rattle.jc_types.specs.declared.caller.Caller.{Caller}
use Rattle.jc_model.specs.Cache.{Bytes}
use Rattle.jc_model.specs.declared.event.Op.{Op}
use Rattle.jc_stripe.specs.Keys.{Looks}
use Rattle.jc_stripe.specs.State.{State, IsJoined, IsOut}
use Rattle.jc_stripe.specs.Phases.{PicksUp}
use Rattle.jc_stripe.specs.Invalidating.{GivesBack}
use Rattle.jc_stripe.specs.Tickets.{JoinClaim}
use Rattle.jc_stripe.specs.Outcomes.{Begun}
use Rattle.jc_stripe.specs.Polled.{Polled}
use Rattle.jc_stripe.specs.declared.ticket.Reservation.{Reservation}
use Rattle.jc_lock.specs.declared.view.View.{View}
use Rattle.jc_engine.specs.declared.first.How.TheVariants.{Now}
use Rattle.jc_engine.specs.Rows.{Turn, turn_of}
use Rattle.jc_engine.specs.Doors.{HasWaited}
use Rattle.jc_engine.specs.Needs.{IsTooEarly, PicksUpLate, StartsAt}
use Rattle.jc_engine.specs.Turns.{StartWaits}

pub record HasLent (before : View) (row : List (State × State)) (after : View) : Type 0 where
  pub lendings : after.lendings ≡ before.lendings ++ row
  pub misses : after.misses ≡ before.misses

abbrev pub starting_now : Caller → Bytes → Op → Begun → Turn
starting_now caller key op begun = turn_of (StartWaits Now caller key op) (StartsAt caller key op begun)

abbrev pub picking_now : JoinClaim → Polled → Turn
picking_now join picked = turn_of (HasWaited (λ a. IsJoined a join) (IsTooEarly false join)) (λ a b. PicksUp a join picked b)

abbrev pub picking_late : JoinClaim → Polled → Turn
picking_late join picked = turn_of (HasWaited (λ a. IsJoined a join) (IsTooEarly true join)) (λ a b. PicksUpLate a join picked b)

abbrev pub withdrawing : Reservation → Turn
withdrawing r = turn_of (HasWaited (λ a. IsOut a r) (λ a. ⊥)) (λ a b. GivesBack a r b)

abbrev pub looking : List Bytes → List Bytes → Turn
looking old new = turn_of (λ a b. ⊥) (λ a b. (b ≡ a) × Looks a old new)
