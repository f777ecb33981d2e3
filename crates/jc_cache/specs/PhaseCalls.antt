-- The calls of `Cache` that make one phase each (`start`, `commit_load`, `pick_up`, ..): what each leaves of its session.
--     SeatPhase     one phase of the session on the stripe that its seat has taken, and the state that it left, which the view
--                   notes; before the phase the session has only waited
--     PhaseAt       a phase call at the stripe with a number
--     MayFind       a state in which the session may find the stripe with a number
--     MayStart      the session's own steps allow its current call at a key
use Rattle.std.specs.Prelude.{◌≡◌, ℕ, List, [], ◌∷◌, ◌++◌, true, Some, slice_get, slice_set}
use mathlib.Core.List.{IsPrefix}
use Rattle.atomic_table.specs.Seated.{TableId}
use Rattle.jc_types.specs.Stripes.{stripe_of}
use Rattle.jc_model.specs.Cache.{Bytes}
use Rattle.jc_stripe.specs.State.{State}
use Rattle.jc_stripe.specs.Generations.{whole_history, IsOfSameStripe}
use Rattle.jc_stripe.specs.Reached.{IsReached}
use Rattle.jc_stripe.specs.OnePhase.{IsPhaseOf}
use Rattle.jc_stripe.specs.Renewal.{all_own_steps}
use Rattle.jc_stripe.specs.OwnSteps.{may_come_all}
use Rattle.jc_lock.specs.declared.view.View.{View}
use Rattle.jc_lock.specs.Views.{Finds}
use Rattle.jc_session.specs.declared.counts.Counted.{Counted}
use Rattle.jc_session.specs.Counting.{counts_after}
use Rattle.jc_session.specs.declared.session.Session.{Session}
use Rattle.jc_cache.specs.Caches.{CacheState}
use Rattle.jc_engine.specs.Rows.{AllLend, Turn}
use Rattle.jc_cache.specs.Fronts.{IsSameSeat}
use Rattle.jc_cache.specs.Turns.{HasLent}

pub record SeatPhase (session : ℕ) (before : View) (turn : Turn) (after : View) : Type 0 where
  pub found : State
  pub reached : IsReached found
  pub same : IsOfSameStripe before.noted found
  pub front : IsPrefix before.front (whole_history found)
  pub own : all_own_steps session found ≡ before.own
  pub made : turn.makes found after.noted
  pub waits : List (State × State)
  pub waited : AllLend turn.waits waits
  pub lent : HasLent before (waits ++ (found, after.noted) ∷ []) after
  pub one : IsPhaseOf session found after.noted
  pub seat : IsSameSeat before after
  pub front_is : after.front ≡ whole_history after.noted
  pub own_is : after.own ≡ all_own_steps session after.noted

pub record PhaseAt {I J : Type 0} {D : I → Type 0} {E : J → Type 0} (stripe : ℕ) (old : Session I J D E) (turn : Turn)
    (counted : Counted) (new : Session I J D E) : Type 0 where
  pub lock : TableId
  pub before : View
  pub after : View
  pub was : slice_get old.seats.items stripe ≡ Some (lock, before)
  pub now : new.seats.items ≡ slice_set old.seats.items stripe (lock, after)
  pub seat : SeatPhase old.agent.caller.session before turn after
  pub left : new.agent ≡ record old.agent { counts = counts_after old.agent.counts counted }

abbrev pub MayStart : {I J : Type 0} {D : I → Type 0} {E : J → Type 0} → CacheState → Session I J D E → Bytes → Type 0
MayStart cache session key =
    (seat : TableId × View) → slice_get session.seats.items (stripe_of key cache.config.stripes) ≡ Some seat
    → may_come_all seat.1.own session.agent.caller key ≡ true

abbrev pub MayFind : {I J : Type 0} {D : I → Type 0} {E : J → Type 0} → Session I J D E → ℕ → State → Type 0
MayFind session number state = (seat : TableId × View) × (slice_get session.seats.items number ≡ Some seat) × Finds seat.1 state
