-- A first phase that reserves its key, and its commit, with nothing between, are one step. And what a session's numbers tell.
--     whole_call         the law of a whole call
--     caller_numbers     the law of a session's numbers
use Rattle.std.proofs.Common.{◌≡◌, ◌<◌, ◌==◌, ◌&&◌, ◌||◌, ◌+◌, ℕ, List, [], ◌∷◌, ◌++◌, map, filter, Bool, true, false, cond, not, Option, None, Some, nat_lt, refl, sym, ap, ◌∙◌, subst, arith}
use Rattle.std.proofs.lemmas.Bool.Decides.{nat_tests}
use Rattle.std.proofs.lemmas.Cmp.{nat_list_eq_equiv}
use Rattle.std.proofs.lemmas.List.Folds.{list_all-append}
use Rattle.std.specs.List.{list_all, list_any}
use Rattle.std.specs.Cmp.Lexicographic.{pointwise}
use Rattle.std.proofs.lemmas.Bool.{and_from, or_left}
use Rattle.jc_types.proofs.CallerLemmas.{all_imply, found_holds}
use Rattle.jc_types.specs.declared.caller.Caller.{Caller}
use Rattle.jc_model.specs.declared.event.Event.{Event}
use Rattle.jc_model.specs.declared.event.Event.TheVariants.{Step, Evict}
use Rattle.jc_model.specs.declared.event.Op.{Op}
use Rattle.jc_model.specs.declared.event.Out.{Out}
use Rattle.jc_model.specs.declared.event.Cause.{Cause}
use Rattle.jc_model.specs.Cache.{Bytes}
use Rattle.jc_model.specs.Group.{Group, victim_events, step_event, evicted_events, nothing_said}
use Rattle.jc_model.specs.Legal.{may_come}
use Rattle.jc_inflight.specs.declared.joiner.Joiner.{Joiner}
use Rattle.jc_inflight.specs.Joining.{is_waiting, waits_for, callers_of}
use Rattle.jc_inflight.specs.Resolving.{with_answer, answered_from}
use Rattle.jc_stripe.specs.declared.ticket.First.{First}
use Rattle.jc_stripe.specs.declared.ticket.Reservation.{Reservation}
use Rattle.jc_stripe.specs.Outcomes.{StepDone}
use Rattle.jc_stripe.specs.Tickets.{TicketClaim}
use Rattle.jc_stripe.specs.State.{State, is_key, is_reserved, is_marked, reservation_of, new_reservation, with_reservation, without_key}
use Rattle.jc_stripe.specs.Refusals.{needs_reservation}
use Rattle.jc_stripe.specs.Phases.{is_other_call, is_other_join, new_group, after_commit, Steps, Commits}
use Rattle.jc_stripe.specs.Reached.{IsReached, JoinFits, AllJoin}
use Rattle.jc_stripe.specs.OwnSteps.{is_before_call, HasNoCallFrom, CallerNumbers, WholeCall, JoinsOnlyLoads}
use Rattle.jc_stripe.proofs.Joining.{loaded_at}
use Rattle.jc_stripe.proofs.Refusing.{was_free, asking_needs, not_refused, or_neither}
use Rattle.jc_stripe.proofs.MarkedKeys.{unmarked_same}
use Rattle.jc_stripe.proofs.Settled.{waiting_finds}
use Rattle.jc_stripe.proofs.OwnPick.{all_behind}
use Rattle.jc_stripe.proofs.ParkedSteps.{filter-append}
use Rattle.jc_stripe.proofs.Numbering.{below_other, without_none}

-- 1. A reservation that comes and goes leaves the others.

pub without_new : (key : Bytes) (rs : List Reservation) (r : Reservation) → list_any (is_key key) rs ≡ false → is_key key r ≡ true → without_key key (rs ++ r ∷ []) ≡ rs
without_new key rs r free is =
    filter-append (λ x. not (is_key key x)) rs (r ∷ [])
    ∙ (λ i. without_none key rs free i ++ cond (not (is i)) (r ∷ []) [])
    ∙ nil_after rs
  where
    nil_after : (xs : List Reservation) → xs ++ [] ≡ xs
    nil_after [] = refl
    nil_after (x ∷ xs) = ap (λ ys. x ∷ ys) (nil_after xs)

-- 2. Nobody waits for a load that isn't there yet.

nobody_waits : (old : State) (j : Joiner) → IsReached old → JoinFits old j j.state → waits_for old.next j ≡ false
nobody_waits old j reached fits =
    elim (is_waiting j.state) as (λ b. is_waiting j.state ≡ b → ((j.load == old.next) && b) ≡ false) [
      | true ↦ λ w.
          let finds = waiting_finds old j j.state w fits in
          let found = loaded_at (reservation_of old j.key) j.load finds.load in
          let below : found.0.number < old.next = found_holds (is_key j.key) (λ (r : Reservation). r.number < old.next) old.reservations found.0 found.1 reached.numbered.below in
          let load : j.load < old.next = subst (λ (n : ℕ). n < old.next) found.3 below in
          ap (λ b. b && true) (below_other j.load old.next load)
      | false ↦ λ w. none (j.load == old.next)
    ] refl
  where
    none : (b : Bool) → (b && false) ≡ false
    none true = refl
    none false = refl

none_resolved : (old : State) (step place : ℕ) (js : List Joiner) → IsReached old → AllJoin old js → answered_from old.next step place js ≡ js
none_resolved old step place [] reached all = refl
none_resolved old step place (j ∷ js) reached all =
    ap (λ b. cond b (with_answer place step j ∷ answered_from old.next step (place + 1) js) (j ∷ answered_from old.next step place js)) (nobody_waits old j reached all.0)
    ∙ ap (λ x. j ∷ x) (none_resolved old step place js reached all.1)

none_called : (old : State) (js : List Joiner) → IsReached old → AllJoin old js → callers_of old.next js ≡ []
none_called old [] reached all = refl
none_called old (j ∷ js) reached all =
    ap (λ b. map (λ (x : Joiner). x.caller) (cond b (j ∷ filter (waits_for old.next) js) (filter (waits_for old.next) js))) (nobody_waits old j reached all.0)
    ∙ none_called old js reached all.1

-- 3. The whole call.

one_step : (old mid new : State) (caller : Caller) (key : Bytes) (op : Op) (first : First) (r : Reservation) (out : Out) (done : StepDone) → IsReached old → is_reserved old key ≡ false → is_marked old key ≡ false
    → r ≡ new_reservation old caller key op first → mid ≡ with_reservation old r → Commits mid r out done new → Steps (record old { next = old.next + 1 }) caller key op out [] done new
one_step old mid new caller key op first r out done reached free unmarked is goes commits =
    let r0 : Reservation = new_reservation old caller key op first in
    let m : mid ≡ with_reservation old r0 = goes ∙ ap (with_reservation old) is in
    let P : State × Reservation → Type 0 = λ x. Steps (after_commit x.0 x.1 done.place) x.1.caller x.1.key x.1.op out (callers_of x.1.number x.0.joiners) done new in
    let steps : Steps (after_commit (with_reservation old r0) r0 done.place) caller key op out (callers_of old.next old.joiners) done new = subst P (λ i. (m i, is i)) commits.1 in
    let rest = without_new key old.reservations r0 free (nat_list_eq_equiv.refl key) in
    let marks = unmarked_same key old.marked unmarked in
    let joins = none_resolved old done.place (done.place + 1) old.joiners reached reached.joins in
    let state : after_commit (with_reservation old r0) r0 done.place ≡ record old { next = old.next + 1 } = λ i. record old { reservations = rest i; joiners = joins i; next = old.next + 1; marked = marks i } in
    let Q : State × List Caller → Type 0 = λ x. Steps x.0 caller key op out x.1 done new in
    subst Q (λ i. (state i, none_called old old.joiners reached reached.joins i)) steps

pub whole_call : WholeCall
whole_call old mid new caller key op ticket out done reached begins commits =
    let asks : needs_reservation old key op ≡ true = asking_needs old key op ticket.reservation.first begins.1 begins.2 begins.3 in
    one_step old mid new caller key op ticket.reservation.first ticket.reservation out done reached (was_free old caller key op begins.0 asks) (or_neither old.shut (is_marked old key) (not_refused old caller key op begins.0).unbarred).1 (ap (λ (t : TicketClaim). t.reservation) begins.4) begins.5 commits

pub joins_loads : JoinsOnlyLoads
joins_loads old new caller key op join none begins = some_not join.load (sym none ∙ begins.1)
  where
    some_not : (load : ℕ) → None ≡ Some load → ⊥
    some_not load h = cc

-- 4. A session's numbers.

lower_call : (mine : Bool) (number call : ℕ) → (mine || nat_lt number call) ≡ true → (mine || nat_lt number (call + 1)) ≡ true
lower_call mine number call h = grind (arith, nat_tests)

before_next : (session call : ℕ) (e : Event) → is_before_call session call e ≡ true → is_before_call session (call + 1) e ≡ true
before_next session call (Step who op key out shared reply) h = lower_call (not (who.session == session)) who.call call h
before_next session call (Evict key cause) h = refl

next_is_above : (session call : ℕ) → (not (session == session) || nat_lt call (call + 1)) ≡ true
next_is_above session call = grind (arith, nat_tests)

victim_before : (session call : ℕ) (victim : Option Bytes) → list_all (is_before_call session call) (victim_events victim) ≡ true
victim_before session call None = refl
victim_before session call (Some key) = refl

evicted_before : (session call : ℕ) (key : Bytes) (cause : Option Cause) → list_all (is_before_call session call) (evicted_events key cause) ≡ true
evicted_before session call key None = refl
evicted_before session call key (Some cause) = refl

numbers_step : (m new : State) (caller : Caller) (key : Bytes) (op : Op) (out : Out) (done : StepDone) → Steps m caller key op out [] done new → HasNoCallFrom m caller.session caller.call → HasNoCallFrom new caller.session (caller.call + 1)
numbers_step m new caller key op out done steps h =
    let session : ℕ = caller.session in
    let next : ℕ = caller.call + 1 in
    let p : Event → Bool = is_before_call session next in
    let g : Group = new_group m caller key op out [] steps.short in
    let old : list_all p m.history ≡ true = all_imply (is_before_call session caller.call) p m.history (λ e k. before_next session caller.call e k) h.steps in
    let step : list_all p (victim_events g.victim ++ step_event g ∷ []) ≡ true = list_all-append p (victim_events g.victim) (step_event g ∷ []) ∙ and_from _ _ (victim_before session next g.victim) (and_from _ _ (next_is_above session caller.call) refl) in
    let group : list_all p ((victim_events g.victim ++ step_event g ∷ []) ++ evicted_events g.step.key g.evicted) ≡ true =
    list_all-append p (victim_events g.victim ++ step_event g ∷ []) (evicted_events g.step.key g.evicted) ∙ and_from _ _ step (evicted_before session next g.step.key g.evicted) in
    record {
      steps = ap (λ (s : State). list_all p s.history) steps.after ∙ list_all-append p m.history ((victim_events g.victim ++ step_event g ∷ []) ++ evicted_events g.step.key g.evicted) ∙ and_from _ _ old group;
      reservations = ap (λ (s : State). list_all (λ (r : Reservation). not (r.caller.session == session)) s.reservations) steps.after ∙ h.reservations;
      joins = ap (λ (s : State). list_all (λ (j : Joiner). not (j.caller.session == session)) s.joiners) steps.after ∙ h.joins;
    }

same_numbers : (old new : State) (session call : ℕ) → new ≡ old → HasNoCallFrom old session call → HasNoCallFrom new session (call + 1)
same_numbers old new session call is h =
    subst (λ (s : State). HasNoCallFrom s session (call + 1)) (sym is) (record {
      steps = all_imply (is_before_call session call) (is_before_call session (call + 1)) old.history (λ e k. before_next session call e k) h.steps;
      reservations = h.reservations;
      joins = h.joins;
    })

may_from : (caller : Caller) (key : Bytes) (e : Event) → is_before_call caller.session caller.call e ≡ true → may_come e caller key ≡ true
may_from caller key (Step who op k out shared reply) h = or_left (not (who.session == caller.session) || nat_lt who.call caller.call) ((who.call == caller.call) && not (pointwise ◌==◌ k key)) h
may_from caller key (Evict k cause) h = refl

pub caller_numbers : CallerNumbers
caller_numbers =
    let whole : WholeCall = whole_call in record {
      may_begin = λ state caller key h of. record {
        of_stripe = of;
        behind = all_imply (is_before_call caller.session caller.call) (λ e. may_come e caller key) state.history (λ e k. may_from caller key e k) h.steps;
        beside = all_imply (λ (r : Reservation). not (r.caller.session == caller.session)) (is_other_call caller key) state.reservations
            (λ r k. or_left (not (r.caller.session == caller.session)) ((r.caller.call == caller.call) && not (pointwise ◌==◌ r.key key)) k) h.reservations;
        apart = all_imply (λ (j : Joiner). not (j.caller.session == caller.session)) (is_other_join caller key) state.joiners
            (λ j k. or_left (not (j.caller.session == caller.session)) ((j.caller.call == caller.call) && not (pointwise ◌==◌ j.key key)) k) h.joins;
      };
      clear = λ state caller key apart own. all_behind caller key state.joiners state.history apart own;
      done = λ old new caller key op done h begins. numbers_step old new caller key op nothing_said done begins.2 h;
      refused = λ old new caller key op refusal h begins. same_numbers old new caller.session caller.call begins.1 h;
      committed = λ old mid new caller key op ticket out done reached h begins commits.
          numbers_step (record old { next = old.next + 1 }) new caller key op out done (whole old mid new caller key op ticket out done reached begins commits) (record { steps = h.steps; reservations = h.reservations; joins = h.joins });
    }
