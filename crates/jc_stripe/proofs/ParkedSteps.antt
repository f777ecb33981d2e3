-- Which steps are parked, and the own steps of a session behind other joiners and behind a group.
--     joiners_call                    what a joiner that belongs to a call says
--     own-parked                      if the same is parked of a session's steps, its own steps are the same
--     parked-joined, parked-dissolved, parked-without, parked-answered     what other joiners park
--     own-answered                    the own steps behind the answers of a load
--     own-victim, own-evicted, own-shared, own-group, own-grown     the own steps of a group
--     parked-callers                  those that share a load are parked behind it
use Rattle.std.proofs.Common.{◌≡◌, ◌==◌, ◌&&◌, ◌||◌, ◌+◌, ℕ, List, [], ◌∷◌, ◌++◌, map, filter, Bool, true, false, cond, not, Option, None, Some, refl, sym, ap, ◌∙◌, arith, append-nil, nat_lt}
use Rattle.std.proofs.lemmas.Bool.Decides.{nat_tests}
use Rattle.std.proofs.lemmas.Bool.{eqb-true, and_parts, and_from, and_right, or_right}
use Rattle.std.proofs.lemmas.Cmp.{nat_list_eq_equiv, nat_eq_equiv}
use Rattle.std.specs.List.{list_all}
use Rattle.std.specs.Cmp.Lexicographic.{pointwise, same_text}
use Rattle.jc_types.proofs.CallerLemmas.{all_imply}
use Rattle.jc_model.specs.declared.event.Event.{Event}
use Rattle.jc_model.specs.declared.event.Event.TheVariants.{Step, Evict}
use Rattle.jc_model.specs.declared.event.Op.{Op}
use Rattle.jc_model.specs.declared.event.Out.{Out}
use Rattle.jc_model.specs.declared.event.Reply.{Reply}
use Rattle.jc_model.specs.declared.event.Cause.{Cause}
use Rattle.jc_model.specs.declared.event.LoadAnswer.{LoadAnswer}
use Rattle.jc_model.specs.Cache.{Bytes}
use Rattle.jc_model.specs.Group.{Group, victim_events, step_event, step_place, shared_event, evicted_events, events_of}
use Rattle.jc_model.specs.Legal.{may_come}
use Rattle.jc_inflight.specs.declared.joiner.Joiner.{Joiner}
use Rattle.jc_inflight.specs.declared.joiner.JoinState.{JoinState}
use Rattle.jc_inflight.specs.declared.joiner.JoinState.TheVariants.{Waiting, Answered, Again}
use Rattle.jc_inflight.specs.Joining.{belongs_to, is_waiting, waits_for, callers_of, waits}
use Rattle.jc_inflight.specs.Joining as joining
use Rattle.jc_inflight.specs.Resolving.{with_answer, answered_from}
use Rattle.jc_inflight.specs.Dissolving.{after_dissolve}
use Rattle.jc_inflight.specs.Taking as taking
use Rattle.jc_stripe.specs.Reached.{may_share}
use Rattle.jc_stripe.specs.OnePhase.{is_answered, is_parked, is_own_step}
use Rattle.jc_stripe.proofs.Settled.{keyed, if_so}
use Rattle.jc_types.specs.declared.caller.Caller.{Caller}

-- 1. The own steps behind other joiners.

-- what a joiner that belongs to a call says
pub record IsCall (c : Caller) (k : Bytes) (j : Joiner) : Type 0 where
  pub session : (j.caller.session == c.session) ≡ true
  pub call : (j.caller.call == c.call) ≡ true
  pub key : k ≡ j.key

pub joiners_call : (c : Caller) (k : Bytes) (j : Joiner) → belongs_to c k j ≡ true → IsCall c k j
joiners_call c k j is =
    let outer = and_parts ((j.caller.session == c.session) && (j.caller.call == c.call)) (pointwise ◌==◌ k j.key) is in
    let inner = and_parts (j.caller.session == c.session) (j.caller.call == c.call) outer.0 in
    record { session = inner.0; call = inner.1; key = same_text k j.key (sym outer.1) }

-- of a session's step it matters alone whether it is parked
pub tested : (mine p q : Bool) → (mine ≡ true → p ≡ q) → (mine && not p) ≡ (mine && not q)
tested true p q f = ap not (f refl)
tested false p q f = refl

-- where the same is parked of a session's steps, its own steps are the same
pub own-parked : (other : ℕ) (js next : List Joiner) (events : List Event) → ((c : Caller) (k : Bytes) → (c.session == other) ≡ true → is_parked next c k ≡ is_parked js c k)
    → filter (is_own_step other next) events ≡ filter (is_own_step other js) events
own-parked other js next [] same = refl
own-parked other js next (Step c op k out shared reply ∷ events) same =
    let test = tested (c.session == other) (is_parked next c k) (is_parked js c k) (same c k) in
    let rest = own-parked other js next events same in
    λ i. cond (test i) (Step c op k out shared reply ∷ rest i) (rest i)
own-parked other js next (Evict k cause ∷ events) same = own-parked other js next events same

-- one that waits parks nothing
pub parked-joined : (caller : Caller) (load : ℕ) (key : Bytes) (js : List Joiner) (c : Caller) (k : Bytes) → is_parked (joining.joiners_with caller key load js) c k ≡ is_parked js c k
parked-joined caller load key [] c k = ap (λ b. b || false) (and_right _ false refl)
parked-joined caller load key (j ∷ js) c k = ap (λ b. (belongs_to c k j && is_answered j.state) || b) (parked-joined caller load key js c k)

pub waiting_parks : (state : JoinState) → is_waiting state ≡ true → is_answered state ≡ false
waiting_parks Waiting h = refl
waiting_parks (Answered place shared) h = cc
waiting_parks Again h = refl

-- nor does one that is to begin again
pub parked-dissolved : (load : ℕ) (js : List Joiner) (c : Caller) (k : Bytes) → is_parked (after_dissolve load js) c k ≡ is_parked js c k
parked-dissolved load [] c k = refl
parked-dissolved load (j ∷ js) c k =
    let rest = parked-dissolved load js c k in
    elim (waits_for load j) as (λ b. waits_for load j ≡ b → is_parked (cond b (record j { state = Again }) j ∷ after_dissolve load js) c k ≡ is_parked (j ∷ js) c k) [
      | true ↦ λ w.
          let nothing : is_answered j.state ≡ false = waiting_parks j.state (and_parts (j.load == load) (is_waiting j.state) w).1 in
          λ i. (belongs_to c k j && sym nothing i) || rest i
      | false ↦ λ w. ap (λ b. (belongs_to c k j && is_answered j.state) || b) rest
    ] refl

-- a call's joiner parks nothing of another session
pub other_parks : (caller : Caller) (key : Bytes) (j : Joiner) (c : Caller) (k : Bytes) → (c.session == caller.session) ≡ false → belongs_to caller key j ≡ true → belongs_to c k j ≡ false
other_parks caller key j c k differs is =
    let outer = and_parts ((j.caller.session == caller.session) && (j.caller.call == caller.call)) (pointwise ◌==◌ key j.key) is in
    let here : j.caller.session ≡ caller.session = eqb-true j.caller.session caller.session (and_parts (j.caller.session == caller.session) (j.caller.call == caller.call) outer.0).0 in
    ap (λ b. b && (j.caller.call == c.call) && pointwise ◌==◌ k j.key) (nat_eq_equiv.symm j.caller.session c.session ∙ ap (λ t. c.session == t) here ∙ differs)

pub parked-without : (caller : Caller) (key : Bytes) (js : List Joiner) (c : Caller) (k : Bytes) → (c.session == caller.session) ≡ false → is_parked (taking.joiners_without caller key js) c k ≡ is_parked js c k
parked-without caller key [] c k differs = refl
parked-without caller key (j ∷ js) c k differs =
    let rest = parked-without caller key js c k differs in
    elim (belongs_to caller key j) as (λ b. belongs_to caller key j ≡ b → is_parked (cond (not b) (j ∷ taking.joiners_without caller key js) (taking.joiners_without caller key js)) c k ≡ is_parked (j ∷ js) c k) [
      | true ↦ λ e. rest ∙ ap (λ b. (b && is_answered j.state) || is_parked js c k) (sym (other_parks caller key j c k differs e))
      | false ↦ λ e. ap (λ b. (belongs_to c k j && is_answered j.state) || b) rest
    ] refl

-- 2. The own steps behind a commit.

pub number_below : (m n : ℕ) → m ≡ n → nat_lt n m ≡ false
number_below m n e = grind (arith, nat_tests)

-- a joiner whose step may still come has none among the events
pub not_yet : (c : Caller) (k : Bytes) (j : Joiner) → (not (c.session == j.caller.session) || nat_lt c.call j.caller.call || ((c.call == j.caller.call) && not (pointwise ◌==◌ k j.key))) ≡ true → belongs_to c k j ≡ false
not_yet c k j h =
    elim (belongs_to c k j) as (λ b. belongs_to c k j ≡ b → b ≡ false) [
      | true ↦ λ is.
          let outer = and_parts ((j.caller.session == c.session) && (j.caller.call == c.call)) (pointwise ◌==◌ k j.key) is in
          let inner = and_parts (j.caller.session == c.session) (j.caller.call == c.call) outer.0 in
          let session : (c.session == j.caller.session) ≡ true = nat_eq_equiv.symm c.session j.caller.session ∙ inner.0 in
          let number : nat_lt c.call j.caller.call ≡ false = number_below j.caller.call c.call (eqb-true j.caller.call c.call inner.1) in
          let bad : (not true || false || ((c.call == j.caller.call) && not true)) ≡ true = (λ i. not (sym session i) || sym number i || ((c.call == j.caller.call) && not (sym outer.1 i))) ∙ h in
          sym bad ∙ and_right (c.call == j.caller.call) false refl
      | false ↦ λ is. refl
    ] refl

-- the answers park no step that stands already
pub parked-answered : (load step place : ℕ) (js : List Joiner) (c : Caller) (op : Op) (k : Bytes) (out : Out) (shared : Option ℕ) (reply : Reply)
    → list_all (λ j. not (waits j) || may_come (Step c op k out shared reply) j.caller j.key) js ≡ true → is_parked (answered_from load step place js) c k ≡ is_parked js c k
parked-answered load step place [] c op k out shared reply h = refl
parked-answered load step place (j ∷ js) c op k out shared reply h =
    let parts = and_parts (not (waits j) || may_come (Step c op k out shared reply) j.caller j.key) (list_all (λ j. not (waits j) || may_come (Step c op k out shared reply) j.caller j.key) js) h in
    elim (waits_for load j) as (λ b. waits_for load j ≡ b → is_parked (cond b (with_answer place step j ∷ answered_from load step (place + 1) js) (j ∷ answered_from load step place js)) c k ≡ is_parked (j ∷ js) c k) [
      | true ↦ λ w.
          let none : belongs_to c k j ≡ false = not_yet c k j (if_so (waits j) _ (and_parts (j.load == load) (is_waiting j.state) w).1 parts.0) in
          ap (λ b. (b && true) || is_parked (answered_from load step (place + 1) js) c k) none
          ∙ parked-answered load step (place + 1) js c op k out shared reply parts.1
          ∙ ap (λ b. (b && is_answered j.state) || is_parked js c k) (sym none)
      | false ↦ λ w. ap (λ b. (belongs_to c k j && is_answered j.state) || b) (parked-answered load step place js c op k out shared reply parts.1)
    ] refl

pub first_of : (w a b : Bool) → (not w || (a && b)) ≡ true → (not w || a) ≡ true
first_of true a b h = (and_parts a b h).0
first_of false a b h = refl

pub others_of : (w a b : Bool) → (not w || (a && b)) ≡ true → (not w || b) ≡ true
others_of true a b h = (and_parts a b h).1
others_of false a b h = refl

pub own-answered : (other load step place : ℕ) (js : List Joiner) (events : List Event) → list_all (may_share events) js ≡ true
    → filter (is_own_step other (answered_from load step place js)) events ≡ filter (is_own_step other js) events
own-answered other load step place js [] h = refl
own-answered other load step place js (Step c op k out shared reply ∷ events) h =
    let event : Event = Step c op k out shared reply in
    let here = all_imply (may_share (event ∷ events)) (λ j. not (waits j) || may_come event j.caller j.key) js (λ j e. first_of (waits j) _ _ e) h in
    let there = all_imply (may_share (event ∷ events)) (may_share events) js (λ j e. others_of (waits j) (may_come event j.caller j.key) _ e) h in
    let same = parked-answered load step place js c op k out shared reply here in
    let rest = own-answered other load step place js events there in
    λ i. cond ((c.session == other) && not (same i)) (event ∷ rest i) (rest i)
own-answered other load step place js (Evict k cause ∷ events) h = own-answered other load step place js events h

-- 3. The own steps of a group.

pub filter-append : {A : Type 0} (p : A → Bool) (xs ys : List A) → filter p (xs ++ ys) ≡ filter p xs ++ filter p ys
filter-append p [] ys = refl
filter-append p (x ∷ xs) ys =
    elim (p x) as (λ b. cond b (x ∷ filter p (xs ++ ys)) (filter p (xs ++ ys)) ≡ cond b (x ∷ filter p xs) (filter p xs) ++ filter p ys) [ true ↦ ap (λ es. x ∷ es) (filter-append p xs ys) | false ↦ filter-append p xs ys ]

pub own-victim : (other : ℕ) (js : List Joiner) (victim : Option Bytes) → filter (is_own_step other js) (victim_events victim) ≡ []
own-victim other js None = refl
own-victim other js (Some v) = refl

pub own-evicted : (other : ℕ) (js : List Joiner) (key : Bytes) (cause : Option Cause) → filter (is_own_step other js) (evicted_events key cause) ≡ []
own-evicted other js key None = refl
own-evicted other js key (Some cause) = refl

-- the callers' steps are parked
abbrev pub all_parked : List Joiner → Bytes → List Caller → Bool
all_parked js key callers = list_all (λ c. is_parked js c key) callers

pub own-shared : (other : ℕ) (js : List Joiner) (place : ℕ) (key : Bytes) (answer : LoadAnswer) (callers : List Caller) → all_parked js key callers ≡ true → filter (is_own_step other js) (map (shared_event place key answer) callers) ≡ []
own-shared other js place key answer [] h = refl
own-shared other js place key answer (c ∷ cs) h =
    let parts = and_parts (is_parked js c key) (all_parked js key cs) h in
    let rest = own-shared other js place key answer cs parts.1 in
    let test : ((c.session == other) && not (is_parked js c key)) ≡ false = ap (λ b. (c.session == other) && not b) parts.0 ∙ and_right (c.session == other) false refl in
    λ i. cond (test i) (shared_event place key answer c ∷ rest i) (rest i)

-- a group whose callers' steps are parked has own steps of its session alone
pub own-group : (other : ℕ) (js : List Joiner) (place : ℕ) (g : Group) → (g.caller.session == other) ≡ false → all_parked js g.step.key g.joined ≡ true → filter (is_own_step other js) (events_of place g) ≡ []
own-group other js place g differs parked =
    let p : Event → Bool = is_own_step other js in
    let shared : List Event = map (shared_event (step_place place g) g.step.key g.step.out.load) g.joined in
    let own : List Event = evicted_events g.step.key g.evicted in
    let steps : filter p (step_event g ∷ shared) ≡ [] =
    ap (λ b. cond (b && not (is_parked js g.caller g.step.key)) (step_event g ∷ filter p shared) (filter p shared)) differs ∙ own-shared other js (step_place place g) g.step.key g.step.out.load g.joined parked in
    filter-append p (victim_events g.victim ++ step_event g ∷ shared) own
    ∙ (λ i. filter-append p (victim_events g.victim) (step_event g ∷ shared) i ++ own-evicted other js g.step.key g.evicted i)
    ∙ (λ i. (own-victim other js g.victim i ++ steps i) ++ [])

-- so a history with such a group more has the same own steps of another session
pub own-grown : (other : ℕ) (js : List Joiner) (history : List Event) (place : ℕ) (g : Group) → (g.caller.session == other) ≡ false → all_parked js g.step.key g.joined ≡ true
    → filter (is_own_step other js) (history ++ events_of place g) ≡ filter (is_own_step other js) history
own-grown other js history place g differs parked =
    filter-append (is_own_step other js) history (events_of place g)
    ∙ ap (λ es. filter (is_own_step other js) history ++ es) (own-group other js place g differs parked)
    ∙ append-nil (filter (is_own_step other js) history)

-- those that share a load are parked behind it
pub parked-callers : (load step place : ℕ) (key : Bytes) (js : List Joiner) → keyed load key js ≡ true → all_parked (answered_from load step place js) key (callers_of load js) ≡ true
parked-callers load step place key [] h = refl
parked-callers load step place key (j ∷ js) h =
    let parts = and_parts (not (waits_for load j) || pointwise ◌==◌ j.key key) (keyed load key js) h in
    elim (waits_for load j) as (λ b. (not b || pointwise ◌==◌ j.key key) ≡ true
    → all_parked (cond b (with_answer place step j ∷ answered_from load step (place + 1) js) (j ∷ answered_from load step place js)) key (map (λ x. x.caller) (cond b (j ∷ filter (waits_for load) js) (filter (waits_for load) js))) ≡ true) [
      | true ↦ λ e.
          let after : List Joiner = answered_from load step (place + 1) js in
          and_from _ _ (ap (λ b. (b && true) || is_parked after j.caller key) (itself j e))
          (all_imply (λ (c : Caller). is_parked after c key) (λ (c : Caller). is_parked (with_answer place step j ∷ after) c key) (callers_of load js)
          (λ c h. or_right (belongs_to c key j && true) _ h) (parked-callers load step (place + 1) key js parts.1))
      | false ↦ λ e.
          all_imply (λ (c : Caller). is_parked (answered_from load step place js) c key) (λ (c : Caller). is_parked (j ∷ answered_from load step place js) c key) (callers_of load js)
          (λ c h. or_right (belongs_to c key j && is_answered j.state) _ h) (parked-callers load step place key js parts.1)
    ] parts.0
  where
    itself : (j : Joiner) → pointwise ◌==◌ j.key key ≡ true → belongs_to j.caller key j ≡ true
    itself j e = and_from _ _ (and_from _ _ (nat_eq_equiv.refl j.caller.session) (nat_eq_equiv.refl j.caller.call)) (nat_list_eq_equiv.symm key j.key ∙ e)
