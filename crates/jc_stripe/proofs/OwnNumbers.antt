-- What the numbers of a session's own steps tell.
--     all_one_more    what all of a list pass, and one more
--     or_last         the last of two
--     below_next      a number is below the next one
--     own_numbers     the law
use Rattle.std.proofs.Common.{◌≡◌, ◌==◌, ◌&&◌, ◌||◌, ◌+◌, ℕ, List, [], ◌∷◌, ◌++◌, Bool, true, false, not, Option, nat_lt, refl, sym, ap, ◌∙◌, arith}
use Rattle.std.proofs.lemmas.Bool.{and_parts}
use Rattle.std.proofs.lemmas.Bool.Decides.{nat_tests}
use Rattle.std.proofs.lemmas.Cmp.{nat_eq_equiv}
use Rattle.std.specs.List.{list_all}
use Rattle.std.specs.Cmp.Lexicographic.{pointwise}
use Rattle.jc_types.specs.declared.caller.Caller.{Caller}
use Rattle.jc_types.proofs.CallerLemmas.{all_imply}
use Rattle.jc_model.specs.declared.event.Op.{Op}
use Rattle.jc_model.specs.declared.event.Out.{Out}
use Rattle.jc_model.specs.declared.event.Reply.{Reply}
use Rattle.jc_model.specs.declared.event.Event.{Event}
use Rattle.jc_model.specs.declared.event.Event.TheVariants.{Step, Evict}
use Rattle.jc_model.specs.Cache.{Bytes}
use Rattle.jc_model.specs.Legal.{may_come}
use Rattle.jc_stripe.specs.OwnSteps.{is_before_call, HasOneMore, OwnNumbers}

-- 1. One more in a list.

all_more : {A : Type 0} (p : A → Bool) (x : A) (xs ys : List A) → p x ≡ true → list_all p (xs ++ ys) ≡ true → list_all p (xs ++ x ∷ ys) ≡ true
all_more p x [] ys here all = ap (λ b. b && list_all p ys) here ∙ all
all_more p x (z ∷ xs) ys here all =
    let parts = and_parts (p z) (list_all p (xs ++ ys)) all in
    ap (λ b. b && list_all p (xs ++ x ∷ ys)) parts.0 ∙ all_more p x xs ys here parts.1

pub all_one_more : (p : Event → Bool) (event : Event) (old new : List Event) → HasOneMore event old new → p event ≡ true → list_all p old ≡ true → list_all p new ≡ true
all_one_more p event old new more here all = ap (list_all p) more.is ∙ all_more p event more.before more.after here (ap (list_all p) (sym more.was) ∙ all)

-- 2. One step.

or_more : (same before rest : Bool) → (not same || before) ≡ true → (not same || before || rest) ≡ true
or_more false before rest h = refl
or_more true true rest h = refl
or_more true false rest h = cc

may_after : (caller : Caller) (key : Bytes) (event : Event) → is_before_call caller.session caller.call event ≡ true → may_come event caller key ≡ true
may_after caller key (Step who op k out shared_with reply) h =
    or_more (who.session == caller.session) (nat_lt who.call caller.call) ((who.call == caller.call) && not (pointwise ◌==◌ k key)) h
may_after caller key (Evict k cause) h = refl

less_next : (session other call number : ℕ) → (not (other == session) || nat_lt number call) ≡ true → (not (other == session) || nat_lt number (call + 1)) ≡ true
less_next session other call number h =
    elim (other == session) as (λ b. (not b || nat_lt number call) ≡ true → (not b || nat_lt number (call + 1)) ≡ true) [
      | true ↦ λ e. (let f : nat_lt number call ≡ true = e in grind (arith, nat_tests))
      | false ↦ λ e. refl
    ] h

before_next : (caller : Caller) (event : Event) → is_before_call caller.session caller.call event ≡ true → is_before_call caller.session (caller.call + 1) event ≡ true
before_next caller (Step who op k out shared_with reply) h = less_next caller.session who.session caller.call who.call h
before_next caller (Evict k cause) h = refl

pub or_last : (a b : Bool) → b ≡ true → (a || b) ≡ true
or_last true b h = refl
or_last false b h = h

pub below_next : (n : ℕ) → nat_lt n (n + 1) ≡ true
below_next n = grind (arith, nat_tests)

own_before_next : (caller : Caller) (op : Op) (key : Bytes) (out : Out) (shared_with : Option ℕ) (reply : Reply) → is_before_call caller.session (caller.call + 1) (Step caller op key out shared_with reply) ≡ true
own_before_next caller op key out shared_with reply = or_last (not (caller.session == caller.session)) (nat_lt caller.call (caller.call + 1)) (below_next caller.call)

own_elsewhere : (caller : Caller) (op : Op) (key other : Bytes) (out : Out) (shared_with : Option ℕ) (reply : Reply) → pointwise ◌==◌ key other ≡ false
    → may_come (Step caller op key out shared_with reply) caller other ≡ true
own_elsewhere caller op key other out shared_with reply apart =
    or_last (not (caller.session == caller.session) || nat_lt caller.call caller.call) ((caller.call == caller.call) && not (pointwise ◌==◌ key other))
    (λ i. nat_eq_equiv.refl caller.call i && not (apart i))

-- 3. The law.

pub own_numbers : OwnNumbers
own_numbers = record {
  may_come = λ own caller key before. all_imply (is_before_call caller.session caller.call) (λ e. may_come e caller key) own (may_after caller key) before;
  next = λ old new caller op key out shared_with reply more before.
      all_one_more (is_before_call caller.session (caller.call + 1)) (Step caller op key out shared_with reply) old new more (own_before_next caller op key out shared_with reply)
      (all_imply (is_before_call caller.session caller.call) (is_before_call caller.session (caller.call + 1)) old (before_next caller) before);
  further = λ old new caller op key out shared_with reply more before.
      all_one_more (is_before_call caller.session (caller.call + 1)) (Step caller op key out shared_with reply) old new more (own_before_next caller op key out shared_with reply) before;
  other_key = λ old new caller op key other out shared_with reply more apart may.
      all_one_more (λ e. may_come e caller other) (Step caller op key out shared_with reply) old new more (own_elsewhere caller op key other out shared_with reply apart) may;
}
