-- The whole history of a stripe, all generations in a row, by what a phase does to the present generation.
--     of_same          a state whose history goes on is of the same stripe
--     whole_goes_on    and its whole history goes on
--     own_stay         all own steps stay if those of the present generation do
--     there_behind     what is in a list is in a longer one, behind what comes before it
--     adds_whole       a step that is added is in the whole history, behind all that was there, and one own step more
--     gains_whole      a step that is gained is in the whole history, and one own step more
--     may_in_all       a step that may come after its session's own steps of all generations may come after the whole history
use Rattle.std.proofs.Common.{◌≡◌, ◌≤◌, ◌+◌, ℕ, suc, List, [], ◌∷◌, ◌++◌, length, filter, Bool, true, Some, slice_get, refl, sym, ap, ◌∙◌, arith, append_assoc, append-nil}
use Rattle.std.proofs.lemmas.Bool.{and_parts, and_from}
use Rattle.std.proofs.lemmas.List.{length-append}
use Rattle.std.proofs.lemmas.List.Folds.{list_all-append}
use Rattle.std.specs.List.{list_all}
use mathlib.Core.List.{IsPrefix}
use Rattle.jc_types.specs.declared.caller.Caller.{Caller}
use Rattle.jc_model.specs.Cache.{Bytes}
use Rattle.jc_model.specs.Legal.{may_come}
use Rattle.jc_model.specs.declared.event.Event.{Event}
use Rattle.jc_stripe.specs.State.{State}
use Rattle.jc_stripe.specs.Laws.{Extends}
use Rattle.jc_stripe.specs.Generations.{opening_after, past_events, whole_history, whole_place, IsOfSameStripe}
use Rattle.jc_stripe.specs.Renewal.{all_own_steps}
use Rattle.jc_stripe.specs.OnePhase.{is_own_step, own_steps, GainsOwn}
use Rattle.jc_stripe.specs.OwnSteps.{AddsOwn, HasOneMore, may_come_all}
use Rattle.jc_stripe.specs.Phases.{MayBegin}
use Rattle.jc_stripe.proofs.OwnPick.{all_behind}

pub of_same : (old new : State) → Extends old new → IsOfSameStripe old new
of_same old new e = record { config = e.same.config; stripe = e.same.stripe; origin = e.same.origin; lives = e.same.lives; opening = λ i. opening_after (e.same.ended i) (e.same.opening i) }

pub whole_goes_on : (old new : State) → Extends old new → IsPrefix (whole_history old) (whole_history new)
whole_goes_on old new e = (e.more, append_assoc (past_events old.ended) old.history e.more ∙ sym (λ i. past_events (e.same.ended i) ++ e.history i))

pub own_stay : (session : ℕ) (old new : State) → new.ended ≡ old.ended → own_steps session new ≡ own_steps session old → all_own_steps session new ≡ all_own_steps session old
own_stay session old new ended own = λ i. filter (is_own_step session []) (past_events (ended i)) ++ own i

pub there_behind : (before events : List Event) (place : ℕ) → slice_get (before ++ events) (length before + place) ≡ slice_get events place
there_behind [] events place = let same : 0 + place ≡ place = omega arith in ap (slice_get events) same
there_behind (e ∷ before) events place =
    let same : suc (length before) + place ≡ suc (length before + place) = omega arith in
    ap (slice_get (e ∷ before ++ events)) same ∙ there_behind before events place

pub adds_whole : (session : ℕ) (old new : State) (event : Event) (place : ℕ) → new.ended ≡ old.ended → AddsOwn session old new event place
    → (length (whole_history old) ≤ whole_place new place) × (slice_get (whole_history new) (whole_place new place) ≡ Some event) × HasOneMore event (all_own_steps session old) (all_own_steps session new)
adds_whole session old new event place ended adds =
    let past : List Event = past_events old.ended in
    let same : length (past_events new.ended) ≡ length past = ap (λ gs. length (past_events gs)) ended in
    let own : List Event = filter (is_own_step session []) past in (
      (let long = length-append past old.history in let behind = adds.behind in omega arith),
      there_behind (past_events new.ended) new.history place ∙ adds.there,
      record {
        before = own ++ own_steps session old;
        after = [];
        was = sym (append-nil (own ++ own_steps session old));
        is = (λ i. filter (is_own_step session []) (past_events (ended i)) ++ adds.own i) ∙ sym (append_assoc own (own_steps session old) (event ∷ []));
      },
    )

pub gains_whole : (session : ℕ) (old new : State) (event : Event) (place : ℕ) → new.ended ≡ old.ended → GainsOwn session old new event place
    → (slice_get (whole_history new) (whole_place new place) ≡ Some event) × HasOneMore event (all_own_steps session old) (all_own_steps session new)
gains_whole session old new event place ended gains =
    let own : List Event = filter (is_own_step session []) (past_events old.ended) in (
      there_behind (past_events new.ended) new.history place ∙ gains.there,
      record {
        before = own ++ gains.before;
        after = gains.after;
        was = ap (λ (es : List Event). own ++ es) gains.was ∙ sym (append_assoc own gains.before gains.after);
        is = (λ i. filter (is_own_step session []) (past_events (ended i)) ++ gains.own i) ∙ sym (append_assoc own gains.before (event ∷ gains.after));
      },
    )

pub may_in_all : (state : State) (caller : Caller) (key : Bytes) → MayBegin state caller key → may_come_all (all_own_steps caller.session state) caller key ≡ true → may_come_all (whole_history state) caller key ≡ true
may_in_all state caller key may own =
    let p : Event → Bool = λ e. may_come e caller key in
    let past : List Event = past_events state.ended in
    let parts = and_parts (list_all p (filter (is_own_step caller.session []) past)) (list_all p (own_steps caller.session state))
    (sym (list_all-append p (filter (is_own_step caller.session []) past) (own_steps caller.session state)) ∙ own) in
    list_all-append p past state.history ∙ and_from (list_all p past) (list_all p state.history) (all_behind caller key [] past refl parts.0) may.behind
