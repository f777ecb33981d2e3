-- What a pick-up leaves of its own session's own steps, and where a step that may come is.
--     parked_other, none_parked     what is parked without a call's joiner
--     picks_own                     the parked step becomes an own one, at its place
--     steps_behind                  a step whose call may still come behind a history isn't in it
--     all_behind                    where the session's own steps and its joiners let a call begin, its whole history does
use Rattle.std.proofs.Common.{◌≡◌, ◌≤◌, ◌==◌, ◌&&◌, ◌||◌, length, ℕ, zero, suc, List, [], ◌∷◌, ◌++◌, filter, find, option_map, Bool, true, false, cond, not, Option, Some, nat_lt, refl, sym, ap, ◌∙◌, arith, slice_get}
use Rattle.std.proofs.lemmas.Bool.{eqb-true, true≢false, and_parts, and_from, and_right, or_left, or_right}
use Rattle.std.proofs.lemmas.Cmp.{nat_list_eq_equiv, nat_eq_equiv}
use Rattle.std.proofs.lemmas.List.Folds.{list_all-append}
use Rattle.std.specs.List.{list_all}
use Rattle.std.specs.Cmp.Lexicographic.{pointwise}
use Rattle.jc_stripe.proofs.Settled.{if_so}
use Rattle.jc_types.proofs.CallerLemmas.{all_imply}
use Rattle.jc_types.specs.declared.caller.Caller.{Caller}
use Rattle.jc_model.specs.declared.event.Event.{Event}
use Rattle.jc_model.specs.declared.event.Event.TheVariants.{Step, Evict}
use Rattle.jc_model.specs.declared.event.Op.{Op}
use Rattle.jc_model.specs.declared.event.Op.TheVariants.{Get}
use Rattle.jc_model.specs.declared.event.Out.{Out}
use Rattle.jc_model.specs.declared.event.Reply.{Reply}
use Rattle.jc_model.specs.Cache.{Bytes}
use Rattle.jc_model.specs.Legal.{in_order, may_come, may_follow}
use Rattle.jc_inflight.specs.declared.joiner.Joiner.{Joiner}
use Rattle.jc_inflight.specs.declared.joiner.JoinState.TheVariants.{Answered}
use Rattle.jc_inflight.specs.Joining.{belongs_to}
use Rattle.jc_inflight.specs.Taking as taking
use Rattle.jc_stripe.specs.Polled as polled
use Rattle.jc_stripe.specs.Tickets.{JoinClaim}
use Rattle.jc_stripe.specs.State.{State}
use Rattle.jc_stripe.specs.Phases.{is_other_join, PicksUp}
use Rattle.jc_stripe.specs.Reached.{IsReached}
use Rattle.jc_stripe.specs.OnePhase.{is_answered, is_parked, is_own_step, own_steps, GainsOwn}
use Rattle.jc_stripe.specs.OwnSteps.{may_come_all}
use Rattle.jc_stripe.proofs.ParkedSteps.{number_below, joiners_call, filter-append}

-- 1. The other events are other calls' or of other keys.

abbrev pub is_call : Caller → Bytes → Caller → Bytes → Bool
is_call c k c' k' = (c'.session == c.session) && (c'.call == c.call) && pointwise ◌==◌ k' k

abbrev pub differs : Caller → Bytes → Event → Bool
differs c k (Step c' op k' out shared reply) = not (is_call c k c' k')
differs c k (Evict k' cause) = true

apart_by : (a l b p : Bool) → (b ≡ true → l ≡ false) → (not a || l || (b && not p)) ≡ true → not (a && b && p) ≡ true
apart_by true true true true f h = sym (f refl)
apart_by true false true true f h = h
apart_by true l true false f h = refl
apart_by true l false p f h = refl
apart_by false l b p f h = refl

pub before_differs : (c : Caller) (op : Op) (k : Bytes) (out : Out) (shared : Option ℕ) (reply : Reply) (x : Event) → may_follow x (Step c op k out shared reply) ≡ true → differs c k x ≡ true
before_differs c op k out shared reply (Step c' op' k' out' shared' reply') h =
    apart_by (c'.session == c.session) (nat_lt c'.call c.call) (c'.call == c.call) (pointwise ◌==◌ k' k) (λ e. number_below c.call c'.call (sym (eqb-true c'.call c.call e))) h
before_differs c op k out shared reply (Evict k' cause) h = refl

pub after_differs : (c : Caller) (op : Op) (k : Bytes) (out : Out) (shared : Option ℕ) (reply : Reply) (y : Event) → may_follow (Step c op k out shared reply) y ≡ true → differs c k y ≡ true
after_differs c op k out shared reply (Step c' op' k' out' shared' reply') h =
    (λ i. not (nat_eq_equiv.symm c'.session c.session i && nat_eq_equiv.symm c'.call c.call i && nat_list_eq_equiv.symm k' k i))
    ∙ apart_by (c.session == c'.session) (nat_lt c.call c'.call) (c.call == c'.call) (pointwise ◌==◌ k k') (λ e. number_below c'.call c.call (sym (eqb-true c.call c'.call e))) h
after_differs c op k out shared reply (Evict k' cause) h = refl

others_differ : (c : Caller) (op : Op) (k : Bytes) (out : Out) (shared : Option ℕ) (reply : Reply) (pre post : List Event) → in_order (pre ++ Step c op k out shared reply ∷ post) ≡ true
    → (list_all (differs c k) pre ≡ true) × (list_all (differs c k) post ≡ true)
others_differ c op k out shared reply [] post h =
    let e : Event = Step c op k out shared reply in
    (refl, all_imply (may_follow e) (differs c k) post (λ y f. after_differs c op k out shared reply y f) (and_parts (list_all (may_follow e) post) (in_order post) h).0)
others_differ c op k out shared reply (x ∷ pre) post h =
    let e : Event = Step c op k out shared reply in
    let parts = and_parts (list_all (may_follow x) (pre ++ e ∷ post)) (in_order (pre ++ e ∷ post)) h in
    let rest = others_differ c op k out shared reply pre post parts.1 in
    let here = and_parts (list_all (may_follow x) pre) (list_all (may_follow x) (e ∷ post)) (sym (list_all-append (may_follow x) pre (e ∷ post)) ∙ parts.0) in
    let first = (and_parts (may_follow x e) (list_all (may_follow x) post) here.1).0 in
    (and_from (differs c k x) (list_all (differs c k) pre) (before_differs c op k out shared reply x first) rest.0, rest.1)

-- 2. What is parked without the joiner.

other_call : (c : Caller) (k : Bytes) (j : Joiner) (c' : Caller) (k' : Bytes) → not (is_call c k c' k') ≡ true → belongs_to c k j ≡ true → belongs_to c' k' j ≡ false
other_call c k j c' k' d is =
    let one = joiners_call c k j is in
    (λ i. (eqb-true j.caller.session c.session one.session i == c'.session) && (eqb-true j.caller.call c.call one.call i == c'.call) && pointwise ◌==◌ k' (sym one.key i))
    ∙ (λ i. nat_eq_equiv.symm c.session c'.session i && nat_eq_equiv.symm c.call c'.call i && pointwise ◌==◌ k' k) ∙ opened (is_call c k c' k') d
  where
    opened : (b : Bool) → not b ≡ true → b ≡ false
    opened true h = sym h
    opened false h = refl

pub parked_other : (c : Caller) (k : Bytes) (js : List Joiner) (c' : Caller) (k' : Bytes) → not (is_call c k c' k') ≡ true → is_parked (taking.joiners_without c k js) c' k' ≡ is_parked js c' k'
parked_other c k [] c' k' d = refl
parked_other c k (j ∷ js) c' k' d =
    let rest = parked_other c k js c' k' d in
    elim (belongs_to c k j) as (λ b. belongs_to c k j ≡ b → is_parked (cond (not b) (j ∷ taking.joiners_without c k js) (taking.joiners_without c k js)) c' k' ≡ is_parked (j ∷ js) c' k') [
      | true ↦ λ e. rest ∙ ap (λ b. (b && is_answered j.state) || is_parked js c' k') (sym (other_call c k j c' k' d e))
      | false ↦ λ e. ap (λ b. (belongs_to c' k' j && is_answered j.state) || b) rest
    ] refl

pub none_parked : (c : Caller) (k : Bytes) (js : List Joiner) → is_parked (taking.joiners_without c k js) c k ≡ false
none_parked c k [] = refl
none_parked c k (j ∷ js) =
    elim (belongs_to c k j) as (λ b. belongs_to c k j ≡ b → is_parked (cond (not b) (j ∷ taking.joiners_without c k js) (taking.joiners_without c k js)) c k ≡ false) [
      | true ↦ λ e. none_parked c k js
      | false ↦ λ e. ap (λ b. (b && is_answered j.state) || is_parked (taking.joiners_without c k js) c k) e ∙ none_parked c k js
    ] refl

pub parked_told : (c : Caller) (k : Bytes) (js : List Joiner) (place shared : ℕ) → option_map (λ x. x.state) (find (belongs_to c k) js) ≡ Some (Answered place shared) → is_parked js c k ≡ true
parked_told c k [] place shared h = cc
parked_told c k (j ∷ js) place shared h =
    elim (belongs_to c k j) as (λ b. option_map (λ x. x.state) (cond b (Some j) (find (belongs_to c k) js)) ≡ Some (Answered place shared) → ((b && is_answered j.state) || is_parked js c k) ≡ true) [
      | true ↦ λ h. or_left (is_answered j.state) (is_parked js c k) (ap is_answered (let e : j.state ≡ Answered place shared = cc in e))
      | false ↦ λ h. parked_told c k js place shared h
    ] h

-- 3. The own steps.

own_kept : (c : Caller) (k : Bytes) (js : List Joiner) (events : List Event) → list_all (differs c k) events ≡ true → filter (is_own_step c.session (taking.joiners_without c k js)) events ≡ filter (is_own_step c.session js) events
own_kept c k js [] h = refl
own_kept c k js (Step c' op k' out shared reply ∷ events) h =
    let parts = and_parts (not (is_call c k c' k')) (list_all (differs c k) events) h in
    let same = parked_other c k js c' k' parts.0 in
    let rest = own_kept c k js events parts.1 in
    λ i. cond ((c'.session == c.session) && not (same i)) (Step c' op k' out shared reply ∷ rest i) (rest i)
own_kept c k js (Evict k' cause ∷ events) h = own_kept c k js events h

split_at : (history : List Event) (place : ℕ) (e : Event) → slice_get history place ≡ Some e → (pre : List Event) × (post : List Event) × (history ≡ pre ++ e ∷ post)
split_at [] place e h = cc
split_at (x ∷ xs) zero e h = let is : x ≡ e = cc in ([], xs, ap (λ y. y ∷ xs) is)
split_at (x ∷ xs) (suc place) e h = let r = split_at xs place e h in (x ∷ r.0, r.1, ap (λ ys. x ∷ ys) r.2)

pub picks_own : (old new : State) (join : JoinClaim) (reply : Reply) (place shared : ℕ) → IsReached old → PicksUp old join (polled.Answer reply place shared) new
    → (out : Out) × GainsOwn join.caller.session old new (Step join.caller Get join.key out (Some shared) reply) place
picks_own old new join reply place shared reached h =
    let c : Caller = join.caller in
    let s : ℕ = join.caller.session in
    let k : Bytes = join.key in
    let js : List Joiner = old.joiners in
    let out : Out = h.2.0 in
    let e : Event = Step c Get k out (Some shared) reply in
    let parts = split_at old.history place e h.2.1 in
    let pre : List Event = parts.0 in
    let post : List Event = parts.1 in
    let differ = others_differ c Get k out (Some shared) reply pre post (ap in_order (sym parts.2) ∙ reached.legal.order) in
    let p : Event → Bool = is_own_step s js in
    let q : Event → Bool = is_own_step s (taking.joiners_without c k js) in
    let hidden : ((s == s) && not (is_parked js c k)) ≡ false = ap (λ b. (s == s) && not b) (parked_told c k js place shared h.1) ∙ and_right (s == s) false refl in
    let shown : ((s == s) && not (is_parked (taking.joiners_without c k js) c k)) ≡ true = λ i. nat_eq_equiv.refl s i && not (none_parked c k js i) in (
      out,
      record {
        there = ap (λ (z : State). slice_get z.history place) h.3 ∙ h.2.1;
        before = filter p pre;
        after = filter p post;
        was = ap (filter p) parts.2 ∙ filter-append p pre (e ∷ post) ∙ ap (λ b. filter p pre ++ cond b (e ∷ filter p post) (filter p post)) hidden;
        own = ap (λ (z : State). own_steps s z) h.3 ∙ ap (filter q) parts.2 ∙ filter-append q pre (e ∷ post)
            ∙ ap (λ b. filter q pre ++ cond b (e ∷ filter q post) (filter q post)) shown
            ∙ (λ i. own_kept c k js pre differ.0 i ++ e ∷ own_kept c k js post differ.1 i);
      },
    )

-- 4. A step whose call may still come behind a history isn't in it.

never : (c : Caller) (op : Op) (k : Bytes) (out : Out) (shared : Option ℕ) (reply : Reply) → may_come (Step c op k out shared reply) c k ≡ false
never c op k out shared reply = λ i. not (nat_eq_equiv.refl c.session i) || number_below c.call c.call refl i || (nat_eq_equiv.refl c.call i && not (nat_list_eq_equiv.refl k i))

pub steps_behind : (history more : List Event) (c : Caller) (op : Op) (k : Bytes) (out : Out) (shared : Option ℕ) (reply : Reply) (place : ℕ) → may_come_all history c k ≡ true
    → slice_get (history ++ more) place ≡ Some (Step c op k out shared reply) → length history ≤ place
steps_behind [] more c op k out shared reply place h there = omega arith
steps_behind (x ∷ xs) more c op k out shared reply zero h there =
    let e : Event = Step c op k out shared reply in
    let is : x ≡ e = cc in
    let here : may_come x c k ≡ true = (and_parts (may_come x c k) (may_come_all xs c k) h).0 in
    absurd (true≢false (sym here ∙ ap (λ y. may_come y c k) is ∙ never c op k out shared reply))
steps_behind (x ∷ xs) more c op k out shared reply (suc place) h there =
    let rest = steps_behind xs more c op k out shared reply place (and_parts (may_come x c k) (may_come_all xs c k) h).1 there in omega arith

-- 5. Where the session's own steps and its joiners let a call begin, its whole history does.

parked_apart : (c : Caller) (k : Bytes) (c' : Caller) (k' : Bytes) (js : List Joiner) → c'.session ≡ c.session → list_all (is_other_join c k) js ≡ true → is_parked js c' k' ≡ true → ((c'.call == c.call) && not (pointwise ◌==◌ k' k)) ≡ true
parked_apart c k c' k' [] same all h = cc
parked_apart c k c' k' (j ∷ js) same all h =
    let parts = and_parts (is_other_join c k j) (list_all (is_other_join c k) js) all in
    elim (belongs_to c' k' j) as (λ b. belongs_to c' k' j ≡ b → ((b && is_answered j.state) || is_parked js c' k') ≡ true → ((c'.call == c.call) && not (pointwise ◌==◌ k' k)) ≡ true) [
      | true ↦ λ e h.
          let one = joiners_call c' k' j e in
          let call : c'.call ≡ j.caller.call = sym (eqb-true j.caller.call c'.call one.call) in
          let mine : (j.caller.session == c.session) ≡ true = ap (λ s. j.caller.session == s) (sym same) ∙ one.session in
          (λ i. (call i == c.call) && not (pointwise ◌==◌ (one.key i) k)) ∙ if_so (j.caller.session == c.session) ((j.caller.call == c.call) && not (pointwise ◌==◌ j.key k)) mine parts.0
      | false ↦ λ e h. parked_apart c k c' k' js same parts.1 h
    ] refl h

pub all_behind : (c : Caller) (k : Bytes) (js : List Joiner) (events : List Event) → list_all (is_other_join c k) js ≡ true → may_come_all (filter (is_own_step c.session js) events) c k ≡ true → may_come_all events c k ≡ true
all_behind c k js [] all h = refl
all_behind c k js (Evict k' cause ∷ events) all h = all_behind c k js events all h
all_behind c k js (Step c' op k' out shared reply ∷ events) all h =
    let e : Event = Step c' op k' out shared reply in
    let m : Event → Bool = λ x. may_come x c k in
    let rest : List Event = filter (is_own_step c.session js) events in
    let late : Bool = (c'.call == c.call) && not (pointwise ◌==◌ k' k) in
    elim (c'.session == c.session) as (λ b. (c'.session == c.session) ≡ b → list_all m (cond (b && not (is_parked js c' k')) (e ∷ rest) rest) ≡ true → ((not b || nat_lt c'.call c.call || late) && list_all m events) ≡ true) [
      | true ↦ λ here. elim (is_parked js c' k') as (λ p. is_parked js c' k' ≡ p → list_all m (cond (true && not p) (e ∷ rest) rest) ≡ true → ((not true || nat_lt c'.call c.call || late) && list_all m events) ≡ true) [
        | true ↦ λ there h. and_from _ _ (or_right (not true || nat_lt c'.call c.call) late (parked_apart c k c' k' js (eqb-true c'.session c.session here) all there)) (all_behind c k js events all h)
        | false ↦ λ there h.
            let parts = and_parts (m e) (list_all m rest) h in
            and_from _ _ ((λ i. not (sym here i) || nat_lt c'.call c.call || late) ∙ parts.0) (all_behind c k js events all parts.1)
      ] refl
      | false ↦ λ here h. all_behind c k js events all h
    ] refl h
