-- Every phase leaves each session's own steps before the next call's number.
--     behind       at first, and after a phase whose own session stays before
--     may_behind   a call with that number may begin, if the stripe is clear for it
use Rattle.std.proofs.Common.{◌≡◌, ◌==◌, ◌&&◌, ◌||◌, ◌+◌, ◌≤◌, ◌<◌, ℕ, List, true, false, not, nat_lt, refl, sym, ap, ◌∙◌, subst, arith, None, Some}
use Rattle.std.proofs.lemmas.Bool.{and_parts, eqb-true}
use Rattle.std.proofs.lemmas.Bool.Decides.{nat_tests}
use Rattle.std.specs.List.{list_all}
use Rattle.jc_types.specs.declared.caller.Caller.{Caller}
use Rattle.jc_types.proofs.CallerLemmas.{all_imply}
use Rattle.jc_model.specs.declared.event.Op.{Op}
use Rattle.jc_model.specs.declared.event.Op.TheVariants.{Get}
use Rattle.jc_model.specs.declared.event.Out.{Out}
use Rattle.jc_model.specs.declared.event.Reply.{Reply}
use Rattle.jc_model.specs.Group.{nothing_said}
use Rattle.jc_model.specs.declared.event.Event.{Event}
use Rattle.jc_model.specs.declared.event.Event.TheVariants.{Step, Evict}
use Rattle.jc_model.specs.Cache.{Bytes}
use Rattle.jc_stripe.specs.State.{State, is_of}
use Rattle.jc_stripe.specs.OnePhase.{own_steps, IsUniform, IsPhaseOf, OnePhase}
use Rattle.jc_stripe.specs.OwnSteps.{is_before_call, CallerNumbers, OwnNumbers, OwnSteps}
use Rattle.jc_stripe.specs.Phases.{MayBegin, Begins, PicksUp, is_other_call, is_other_join}
use Rattle.jc_stripe.specs.Invalidating.{Ends}
use Rattle.jc_stripe.specs.Reached.{IsReached}
use Rattle.jc_stripe.specs.Tickets.{JoinClaim}
use Rattle.jc_stripe.specs.declared.ticket.Reservation.{Reservation}
use Rattle.jc_stripe.specs.Outcomes.{StepDone}
use Rattle.jc_stripe.specs.Outcomes as begun
use Rattle.jc_stripe.specs.Polled as polled
use Rattle.jc_stripe.proofs.CallerLemmas.{adds_one, gains_one}
use Rattle.jc_stripe.proofs.OwnNumbers.{all_one_more, or_last}
use Rattle.jc_stripe.specs.Tests.{is_clear}
use Rattle.jc_stripe.specs.DeskState.{HasStepsBefore}

less_more : (session other call more number : ℕ) → call ≤ more → (not (other == session) || nat_lt number call) ≡ true → (not (other == session) || nat_lt number more) ≡ true
less_more session other call more number le h =
    elim (other == session) as (λ b. (not b || nat_lt number call) ≡ true → (not b || nat_lt number more) ≡ true) [
      | true ↦ λ e. (let f : nat_lt number call ≡ true = e in grind (arith, nat_tests))
      | false ↦ λ e. refl
    ] h

before_more : (session call more : ℕ) → call ≤ more → (event : Event) → is_before_call session call event ≡ true → is_before_call session more event ≡ true
before_more session call more le (Step who op k out shared_with reply) h = less_more session who.session call more who.call le h
before_more session call more le (Evict k cause) h = refl

pub mono : (session call more : ℕ) → call ≤ more → (events : List Event) → list_all (is_before_call session call) events ≡ true → list_all (is_before_call session more) events ≡ true
mono session call more le events all = all_imply (is_before_call session call) (is_before_call session more) events (before_more session call more le) all

pub behind : (session call more : ℕ) (old new : State) → call ≤ more → IsUniform session old new → HasStepsBefore old call
    → list_all (is_before_call session more) (own_steps session new) ≡ true → HasStepsBefore new more
behind session call more old new le uniform before own other =
    elim (other == session) as (λ b. (other == session) ≡ b → list_all (is_before_call other more) (own_steps other new) ≡ true) [
      | true ↦ λ e. subst (λ (s : ℕ). list_all (is_before_call s more) (own_steps s new) ≡ true) (sym (eqb-true other session e)) own
      | false ↦ λ e. ap (list_all (is_before_call other more)) (uniform.others other e) ∙ mono other call more le (own_steps other old) (before other)
    ] refl

pub may_behind : (numbers : CallerNumbers) (own : OwnNumbers) (state : State) (caller : Caller) (key : Bytes) → HasStepsBefore state caller.call → is_clear state caller key ≡ true → MayBegin state caller key
may_behind numbers own state caller key before clear =
    let rest = and_parts (is_of state key && list_all (is_other_call caller key) state.reservations) (list_all (is_other_join caller key) state.joiners) clear in
    let first = and_parts (is_of state key) (list_all (is_other_call caller key) state.reservations) rest.0 in
    record {
      of_stripe = first.0;
      behind = numbers.clear state caller key rest.1 (own.may_come (own_steps caller.session state) caller key (before caller.session));
      beside = first.1;
      apart = rest.1;
    }

more_one : (n : ℕ) → n ≤ n + 1
more_one n = omega arith

pub begun_done : (numbers : CallerNumbers) (own : OwnNumbers) (steps : OwnSteps) (one : OnePhase) (old new : State) (caller : Caller) (key : Bytes) (op : Op) (done : StepDone)
    → IsReached old → HasStepsBefore old caller.call → is_clear old caller key ≡ true → Begins old caller key op (begun.Done done) new → IsPhaseOf caller.session old new → HasStepsBefore new (caller.call + 1)
begun_done numbers own steps one old new caller key op done reached before clear begins phase =
    behind caller.session caller.call (caller.call + 1) old new (more_one caller.call) (one caller.session old new reached phase) before
    (own.next (own_steps caller.session old) (own_steps caller.session new) caller op key nothing_said None done.reply
    (adds_one caller.session old new (Step caller op key nothing_said None done.reply) done.place (steps.done old new caller key op done (may_behind numbers own old caller key before clear) begins)) (before caller.session))

pub same_own : (one : OnePhase) (old new : State) (session call more : ℕ) → call ≤ more → IsReached old → HasStepsBefore old call → IsPhaseOf session old new
    → own_steps session new ≡ own_steps session old → HasStepsBefore new more
same_own one old new session call more le reached before phase same =
    behind session call more old new le (one session old new reached phase) before (ap (list_all (is_before_call session more)) same ∙ mono session call more le (own_steps session old) (before session))

pub begun_same : (one : OnePhase) (old new : State) (session call : ℕ) → IsReached old → HasStepsBefore old call → IsPhaseOf session old new
    → own_steps session new ≡ own_steps session old → HasStepsBefore new (call + 1)
begun_same one old new session call = same_own one old new session call (call + 1) (more_one call)

pub left_same : (one : OnePhase) (old new : State) (session call : ℕ) → IsReached old → HasStepsBefore old call → IsPhaseOf session old new
    → own_steps session new ≡ own_steps session old → HasStepsBefore new call
left_same one old new session call = same_own one old new session call call (omega arith)

below : (n m : ℕ) → n < m → nat_lt n m ≡ true
below n m low = grind (arith, nat_tests)

pub committed : (steps : OwnSteps) (one : OnePhase) (old new : State) (r : Reservation) (out : Out) (done : StepDone) (next : ℕ) → r.caller.call < next
    → IsReached old → HasStepsBefore old next → Ends old r out done new → IsPhaseOf r.caller.session old new → HasStepsBefore new next
committed steps one old new r out done next low reached before ends phase =
    let who = r.caller in
    let event : Event = Step who r.op r.key out None done.reply in
    behind who.session next next old new (omega arith) (one who.session old new reached phase) before
    (all_one_more (is_before_call who.session next) event (own_steps who.session old) (own_steps who.session new)
    (adds_one who.session old new event done.place (steps.ends old new r out done reached ends)) (or_last (not (who.session == who.session)) (nat_lt who.call next) (below who.call next low)) (before who.session))

pub picked : (steps : OwnSteps) (one : OnePhase) (old new : State) (join : JoinClaim) (reply : Reply) (place shared_with next : ℕ) → join.caller.call < next
    → IsReached old → HasStepsBefore old next → PicksUp old join (polled.Answer reply place shared_with) new → IsPhaseOf join.caller.session old new → HasStepsBefore new next
picked steps one old new join reply place shared_with next low reached before picks phase =
    let who = join.caller in
    let gained = steps.picks_up old new join reply place shared_with reached picks in
    let event : Event = Step who Get join.key gained.0 (Some shared_with) reply in
    behind who.session next next old new (omega arith) (one who.session old new reached phase) before
    (all_one_more (is_before_call who.session next) event (own_steps who.session old) (own_steps who.session new)
    (gains_one who.session old new event place gained.1) (or_last (not (who.session == who.session)) (nat_lt who.call next) (below who.call next low)) (before who.session))
