-- The end of a generation by a session.
--     IsEndOf     the end of a stripe's generation: how many had ended before, and its events, which were appended; or an
--                 allocation failed, and nothing was done
--     EndsAt      a session has taken the stripe with this number once, left it so, and given it back; the rest of the session is
--                 unchanged
--     GenerationsFollow    the law: if one ended generation was returned with a number, and a later one with the next number,
--                 then the second one's events follow those of the first, with nothing between
use Rattle.std.specs.Prelude.{◌≡◌, ◌+◌, ◌<◌, ℕ, List, ◌++◌, Option, Some, Result, Ok, Err, slice_get, slice_set}
use mathlib.Core.List.{IsPrefix}
use Rattle.atomic_table.specs.Seated.{TableId}
use Rattle.jc_model.specs.declared.event.Event.{Event}
use Rattle.jc_stripe.specs.State.{State}
use Rattle.jc_types.specs.declared.limits.TheConstants.{LAST_NUMBER}
use Rattle.jc_stripe.specs.Generations.{whole_history}
use Rattle.jc_stripe.specs.Renewal.{EndsGeneration}
use Rattle.jc_lock.specs.Views.{Finds, after_give, after_take}
use Rattle.jc_lock.specs.declared.view.View.{View}
use Rattle.jc_session.specs.declared.session.Session.{Session}
use Rattle.jc_cache.specs.Fronts.{HasSeen}

abbrev pub IsEndOf : {A : Type 0} → Result (Option ℕ) A → List Event → List Event → State → State → Type 0
IsEndOf (Ok ended) old new found left = (events : List Event) × (new ≡ old ++ events) × EndsGeneration found ended events left
IsEndOf (Err failed) old new found left = (new ≡ old) × (left ≡ found)

pub record EndsAt {I J : Type 0} {D : I → Type 0} {E : J → Type 0} (stripe : ℕ) (old : Session I J D E)
    (turn : State → State → Type 0) (new : Session I J D E) : Type 0 where
  pub lock : TableId
  pub before : View
  pub found : State
  pub left : State
  pub was : slice_get old.seats.items stripe ≡ Some (lock, before)
  pub finds : Finds before found
  pub turned : turn found left
  pub now : new.seats.items ≡ slice_set old.seats.items stripe (lock, after_give (after_take before found) left)
  pub on : HasSeen before (after_give (after_take before found) left)
  pub stays : new.agent ≡ old.agent

-- that the ended generations of `left` are the first ones of `found` is so of all that a seat finds later
abbrev pub GenerationsFollow : Type 0
GenerationsFollow = (old left found new : State) (number : ℕ) (events later : List Event) → number + 1 < LAST_NUMBER
    → EndsGeneration old (Some number) events left → IsPrefix left.ended found.ended
    → EndsGeneration found (Some (number + 1)) later new
    → whole_history found ≡ whole_history old ++ later
