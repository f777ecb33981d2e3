-- What each kind of phase leaves of its own session's own steps.
--     own_left     the law
use Rattle.std.proofs.Common.{subst, ◌≡◌, ◌==◌, ◌&&◌, ◌||◌, ◌+◌, ℕ, List, [], ◌∷◌, ◌++◌, map, length, filter, Bool, true, false, cond, not, None, Some, refl, sym, ap, ◌∙◌, arith, append_assoc, slice_get, find, option_map}
use Rattle.std.proofs.lemmas.Bool.{eqb-true, and_parts}
use Rattle.std.proofs.lemmas.Cmp.{nat_eq_equiv}
use Rattle.std.proofs.lemmas.List.{length-append}
use Rattle.std.specs.List.{list_all}
use Rattle.std.specs.Cmp.Lexicographic.{pointwise, same_text}
use Rattle.jc_types.proofs.CallerLemmas.{all_found}
use Rattle.jc_types.specs.declared.caller.Caller.{Caller}
use Rattle.jc_model.specs.declared.event.Event.{Event}
use Rattle.jc_model.specs.declared.event.Event.TheVariants.{Step, Evict}
use Rattle.jc_model.specs.declared.event.Op.{Op}
use Rattle.jc_model.specs.declared.event.Out.{Out}
use Rattle.jc_model.specs.declared.event.Reply.{Reply}
use Rattle.jc_model.specs.Cache.{Bytes}
use Rattle.jc_model.specs.Group.{Group, victim_events, step_event, step_place, shared_event, evicted_events, events_of, nothing_said}
use Rattle.jc_inflight.specs.declared.joiner.Joiner.{Joiner}
use Rattle.jc_inflight.specs.declared.joiner.JoinState.TheVariants.{Again}
use Rattle.jc_inflight.specs.Joining.{belongs_to, waits_for, callers_of}
use Rattle.jc_inflight.specs.Joining as joining
use Rattle.jc_inflight.specs.Resolving.{with_answer, answered_from, after_resolve}
use Rattle.jc_inflight.specs.Dissolving.{after_dissolve}
use Rattle.jc_inflight.specs.Taking as taking
use Rattle.jc_stripe.specs.declared.ticket.Reservation.{Reservation}
use Rattle.jc_stripe.specs.Outcomes.{StepDone}
use Rattle.jc_stripe.specs.State.{State, is_key}
use Rattle.jc_stripe.specs.Phases.{new_group, after_commit, is_other_join, Steps, Commits}
use Rattle.jc_stripe.specs.Reached.{IsReached, are_apart}
use Rattle.jc_stripe.specs.OnePhase.{is_answered, is_parked, is_own_step, own_steps}
use Rattle.jc_stripe.specs.OwnSteps.{AddsOwn, OwnSteps}
use Rattle.jc_stripe.proofs.Beside.{belongs_to_no_other}
use Rattle.jc_stripe.proofs.OwnPick.{none_parked, parked_other, picks_own}
use Rattle.jc_stripe.proofs.Settled.{keyed_callers}
use Rattle.jc_stripe.proofs.ParkedSteps.{joiners_call, own-parked, own-answered, own-victim, own-evicted, own-shared, filter-append, all_parked, parked-callers, parked-joined, parked-dissolved}
use Rattle.jc_stripe.specs.Invalidating.{Ends}
use Rattle.jc_stripe.proofs.Settling.{quiet_forgetting, there_before}
use Rattle.jc_stripe.proofs.Ending.{ended, given_back}
use Rattle.jc_stripe.proofs.SharedSteps.{stands_at}

-- 1. A call of its own has nothing parked.

pub unparked : (c : Caller) (k : Bytes) (js : List Joiner) → list_all (is_other_join c k) js ≡ true → is_parked js c k ≡ false
unparked c k [] h = refl
unparked c k (j ∷ js) h =
    let parts = and_parts (is_other_join c k j) (list_all (is_other_join c k) js) h in
    ap (λ b. (b && is_answered j.state) || is_parked js c k) (belongs_to_no_other c k j parts.0) ∙ unparked c k js parts.1

apart_answered : (c : Caller) (k : Bytes) (load step place : ℕ) (js : List Joiner) → list_all (is_other_join c k) (answered_from load step place js) ≡ list_all (is_other_join c k) js
apart_answered c k load step place [] = refl
apart_answered c k load step place (j ∷ js) =
    elim (waits_for load j) as (λ b. list_all (is_other_join c k) (cond b (with_answer place step j ∷ answered_from load step (place + 1) js) (j ∷ answered_from load step place js)) ≡ list_all (is_other_join c k) (j ∷ js)) [
      | true ↦ ap (λ b. is_other_join c k j && b) (apart_answered c k load step (place + 1) js)
      | false ↦ ap (λ b. is_other_join c k j && b) (apart_answered c k load step place js)
    ]

-- 2. The own steps of a group of the session's.

own_mine : (js : List Joiner) (place : ℕ) (g : Group) → is_parked js g.caller g.step.key ≡ false → all_parked js g.step.key g.joined ≡ true → filter (is_own_step g.caller.session js) (events_of place g) ≡ step_event g ∷ []
own_mine js place g free parked =
    let session : ℕ = g.caller.session in
    let p : Event → Bool = is_own_step session js in
    let shared : List Event = map (shared_event (step_place place g) g.step.key g.step.out.load) g.joined in
    let own : List Event = evicted_events g.step.key g.evicted in
    let mine = nat_eq_equiv.refl session in
    let none = own-shared session js (step_place place g) g.step.key g.step.out.load g.joined parked in
    let steps : filter p (step_event g ∷ shared) ≡ step_event g ∷ [] = λ i. cond (mine i && not (free i)) (step_event g ∷ none i) (filter p shared) in
    filter-append p (victim_events g.victim ++ step_event g ∷ shared) own
    ∙ (λ i. filter-append p (victim_events g.victim) (step_event g ∷ shared) i ++ own-evicted session js g.step.key g.evicted i)
    ∙ (λ i. (own-victim session js g.victim i ++ steps i) ++ [])

pub step_there : (history : List Event) (g : Group) → slice_get (history ++ events_of (length history) g) (step_place (length history) g) ≡ Some (step_event g)
step_there history g =
    let front : List Event = victim_events g.victim in
    let shared : List Event = map (shared_event (step_place (length history) g) g.step.key g.step.out.load) g.joined in
    let gone : List Event = evicted_events g.step.key g.evicted in
    let is : history ++ events_of (length history) g ≡ (history ++ front) ++ step_event g ∷ (shared ++ gone) =
    ap (λ es. history ++ es) (append_assoc front (step_event g ∷ shared) gone) ∙ sym (append_assoc history front (step_event g ∷ (shared ++ gone))) in
    ap (λ n. slice_get (history ++ events_of (length history) g) n) (sym (length-append history front)) ∙ ap (λ h. slice_get h (length (history ++ front))) is ∙ stands_at (history ++ front) (step_event g) (shared ++ gone)

adds : (m new : State) (caller : Caller) (key : Bytes) (op : Op) (out : Out) (callers : List Caller) (done : StepDone) → Steps m caller key op out callers done new
    → is_parked m.joiners caller key ≡ false → all_parked m.joiners key callers ≡ true → AddsOwn caller.session m new (Step caller op key out None done.reply) done.place
adds m new caller key op out callers done steps free parked =
    let g : Group = new_group m caller key op out callers steps.short in
    let event : step_event g ≡ Step caller op key out None done.reply = ap (λ r. Step caller op key out None r) (sym steps.reply) in
    record {
      behind = let at = steps.place in omega arith;
      there = (λ i. slice_get (steps.after i).history (steps.place i)) ∙ step_there m.history g ∙ ap Some event;
      own = ap (λ (s : State). own_steps caller.session s) steps.after
          ∙ filter-append (is_own_step caller.session m.joiners) m.history (events_of (length m.history) g)
          ∙ ap (λ es. filter (is_own_step caller.session m.joiners) m.history ++ es) (own_mine m.joiners (length m.history) g free parked ∙ ap (λ e. e ∷ []) event);
    }

-- 3. The phases.

commits_own : (old new : State) (r : Reservation) (out : Out) (done : StepDone) → IsReached old → Commits old r out done new → AddsOwn r.caller.session old new (Step r.caller r.op r.key out None done.reply) done.place
commits_own old new r out done reached commits =
    let js : List Joiner = after_resolve r.number done.place old.joiners in
    let apart : list_all (is_other_join r.caller r.key) old.joiners ≡ true = all_found (is_key r.key) (λ x. list_all (is_other_join x.caller x.key) old.joiners) old.reservations r commits.0 reached.between in
    let free : is_parked js r.caller r.key ≡ false = unparked r.caller r.key js (apart_answered r.caller r.key r.number done.place (done.place + 1) old.joiners ∙ apart) in
    let parked : all_parked js r.key (callers_of r.number old.joiners) ≡ true = parked-callers r.number done.place (done.place + 1) r.key old.joiners (keyed_callers old r reached commits.0) in
    let a = adds (after_commit old r done.place) new r.caller r.key r.op out (callers_of r.number old.joiners) done commits.1 free parked in
    record {
      behind = a.behind;
      there = a.there;
      own = a.own ∙ ap (λ es. es ++ Step r.caller r.op r.key out None done.reply ∷ []) (own-answered r.caller.session r.number done.place (done.place + 1) old.joiners old.history reached.shares);
    }

-- a joiner that is told to retry has nothing parked, and its call has no other joiner
pub again_parks : (c : Caller) (k : Bytes) (js : List Joiner) → are_apart js ≡ true → option_map (λ x. x.state) (find (belongs_to c k) js) ≡ Some Again → is_parked js c k ≡ false
again_parks c k [] apart h = refl
again_parks c k (j ∷ js) apart h =
    let parts = and_parts (list_all (is_other_join j.caller j.key) js) (are_apart js) apart in
    elim (belongs_to c k j) as (λ b. belongs_to c k j ≡ b → option_map (λ x. x.state) (cond b (Some j) (find (belongs_to c k) js)) ≡ Some Again → ((b && is_answered j.state) || is_parked js c k) ≡ false) [
      | true ↦ λ e h.
          let one = joiners_call c k j e in
          let who : j.caller ≡ c = λ i. record { session = eqb-true j.caller.session c.session one.session i; call = eqb-true j.caller.call c.call one.call i } in
          let mine : list_all (is_other_join c k) js ≡ true = (λ i. list_all (is_other_join (sym who i) (one.key i)) js) ∙ parts.0 in
          let state : j.state ≡ Again = cc in
          ap (λ b. (true && b) || is_parked js c k) (ap is_answered state) ∙ unparked c k js mine
      | false ↦ λ e h. again_parks c k js parts.1 h
    ] refl h

own_again : (c : Caller) (k : Bytes) (js : List Joiner) (events : List Event) → is_parked js c k ≡ false → filter (is_own_step c.session (taking.joiners_without c k js)) events ≡ filter (is_own_step c.session js) events
own_again c k js [] free = refl
own_again c k js (Step c' op k' out shared reply ∷ events) free =
    let rest = own_again c k js events free in
    let same : is_parked (taking.joiners_without c k js) c' k' ≡ is_parked js c' k' =
    elim ((c'.session == c.session) && (c'.call == c.call) && pointwise ◌==◌ k' k) as (λ b. ((c'.session == c.session) && (c'.call == c.call) && pointwise ◌==◌ k' k) ≡ b → is_parked (taking.joiners_without c k js) c' k' ≡ is_parked js c' k') [
      | true ↦ λ e.
          let outer = and_parts ((c'.session == c.session) && (c'.call == c.call)) (pointwise ◌==◌ k' k) e in
          let inner = and_parts (c'.session == c.session) (c'.call == c.call) outer.0 in
          let who : c' ≡ c = λ i. record { session = eqb-true c'.session c.session inner.0 i; call = eqb-true c'.call c.call inner.1 i } in
          let key : k' ≡ k = same_text k' k (sym outer.1) in
          (λ i. is_parked (taking.joiners_without c k js) (who i) (key i)) ∙ none_parked c k js ∙ sym free ∙ (λ i. is_parked js (sym who i) (sym key i))
      | false ↦ λ e. parked_other c k js c' k' (ap not e)
    ] refl in
    λ i. cond ((c'.session == c.session) && not (same i)) (Step c' op k' out shared reply ∷ rest i) (rest i)
own_again c k js (Evict k' cause ∷ events) free = own_again c k js events free

-- what follows a commit leaves its step where it is
ends_own : (old new : State) (r : Reservation) (out : Out) (done : StepDone) → IsReached old → Ends old r out done new → AddsOwn r.caller.session old new (Step r.caller r.op r.key out None done.reply) done.place
ends_own old new r out done reached h =
    let e = ended old new r out done reached h in
    let a = commits_own old e.mid r out e.step reached e.commits in
    let P : Reply × ℕ → Type 0 = λ x. AddsOwn r.caller.session old new (Step r.caller r.op r.key out None x.0) x.1 in
    subst P (λ i. (sym e.reply i, sym e.place i)) (record {
      behind = a.behind;
      there = ap (λ h. slice_get h e.step.place) e.quiet.grows.history ∙ there_before e.mid.history e.quiet.grows.more e.step.place _ a.there;
      own = e.quiet.own r.caller.session ∙ a.own;
    })

pub own_left : OwnSteps
own_left = record {
  done = λ old new caller key op done may h. adds old new caller key op nothing_said [] done h.2 (unparked caller key old.joiners may.apart) refl;
  commits = λ old new r out done reached h. commits_own old new r out done reached h;
  ends = ends_own;
  gives_back = λ old new session r reached h.
      let e = given_back old new r reached h in
      e.2.own session ∙ ap (λ (s : State). own_steps session s) e.1.1
      ∙ own-parked session old.joiners (after_dissolve r.number old.joiners) old.history (λ c k e. parked-dissolved r.number old.joiners c k);
  forgets = λ old new session reached h. (quiet_forgetting old new reached h).own session;
  refused = λ old new caller key op refusal h. ap (λ (s : State). own_steps caller.session s) h.1;
  reserves = λ old new caller key op ticket h. ap (λ (s : State). own_steps caller.session s) h.5;
  joins = λ old new caller key op join h.
      ap (λ (s : State). own_steps caller.session s) h.3
      ∙ own-parked caller.session old.joiners (joining.joiners_with join.caller join.key join.load old.joiners) old.history (λ c k e. parked-joined join.caller join.load join.key old.joiners c k);
  withdraws = λ old new session r h.
      ap (λ (s : State). own_steps session s) h.1
      ∙ own-parked session old.joiners (after_dissolve r.number old.joiners) old.history (λ c k e. parked-dissolved r.number old.joiners c k);
  picks_up = picks_own;
  again = λ old new join reached h.
      ap (λ (s : State). own_steps join.caller.session s) h.2 ∙ own_again join.caller join.key old.joiners old.history (again_parks join.caller join.key old.joiners reached.apart h.1);
  not_yet = λ old new join back h. ap (λ (s : State). own_steps join.caller.session s) h.3;
}
