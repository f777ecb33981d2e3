-- Lists of own steps with one step more, and what they say of a call.
--     filter-out, filter-in, all-in    a list with one element more, at any place
--     own-step, no-step                a step of the call at its key, and at another
--     none-head                        nothing is left of a list of which an element passes
--     steps-gained                     one step of the call more at its key, which had none
--     others-gained, former-gained, before-gained    it leaves the steps at other keys, those of former calls, and the numbers
--     may-come-all                     a step of the call may come at a key at which it has none
--     no-steps, still-before           before the call it has no step, and all steps are of former calls
use Rattle.jc_rounds.proofs.Common.{◌≡◌, ◌==◌, ◌&&◌, ◌||◌, ◌+◌, ℕ, List, [], ◌∷◌, ◌++◌, filter, cond, Bool, true, false, not, Option, nat_lt, if◌then◌else◌, refl, sym, ap, ◌∙◌, arith, and_parts, nat_tests, nat_list_eq_equiv, list_all, pointwise, Caller, Bytes, may_come, Event, Step, Evict, Op, Out, Reply, is_before_call, may_come_all, last_number, one_more, IsEarly, is_step_of, steps_of, is_former, former_steps, are_before}

-- 1. Lists with one element more.

pub filter-out : (p : Event → Bool) (e : Event) (xs ys : List Event) → p e ≡ false → filter p (xs ++ e ∷ ys) ≡ filter p (xs ++ ys)
filter-out p e [] ys isnt = ap (λ b. cond b (e ∷ filter p ys) (filter p ys)) isnt
filter-out p e (x ∷ xs) ys isnt = ap (λ zs. cond (p x) (x ∷ zs) zs) (filter-out p e xs ys isnt)

none-head : {A : Type 0} (b : Bool) (x : A) (xs : List A) → cond b (x ∷ xs) xs ≡ [] → (b ≡ false) × (xs ≡ [])
none-head true x xs h = cc
none-head false x xs h = (refl, h)

pub filter-in : (p : Event → Bool) (e : Event) (xs ys : List Event) → p e ≡ true → filter p (xs ++ ys) ≡ [] → filter p (xs ++ e ∷ ys) ≡ e ∷ []
filter-in p e [] ys it nil = ap (λ b. cond b (e ∷ filter p ys) (filter p ys)) it ∙ ap (λ zs. e ∷ zs) nil
filter-in p e (x ∷ xs) ys it nil =
    let n = none-head (p x) x (filter p (xs ++ ys)) nil in
    ap (λ b. cond b (x ∷ filter p (xs ++ e ∷ ys)) (filter p (xs ++ e ∷ ys))) n.0 ∙ filter-in p e xs ys it n.1

pub all-in : (p : Event → Bool) (e : Event) (xs ys : List Event) → p e ≡ true → list_all p (xs ++ ys) ≡ true → list_all p (xs ++ e ∷ ys) ≡ true
all-in p e [] ys it all = ap (λ b. b && list_all p ys) it ∙ all
all-in p e (x ∷ xs) ys it all =
    let a = and_parts (p x) (list_all p (xs ++ ys)) all in
    ap (λ b. b && list_all p (xs ++ e ∷ ys)) a.0 ∙ all-in p e xs ys it a.1

-- 2. A step of the call.

same-number : (n : ℕ) → (n == n) ≡ true
same-number n = grind (arith, nat_tests)

below-next : (n : ℕ) → nat_lt n (n + 1) ≡ true
below-next n = grind (arith, nat_tests)

-- the number after one that isn't the last
pub one-later : (n : ℕ) → nat_lt n last_number ≡ true → nat_lt n (one_more n) ≡ true
one-later n early = ap (λ b. nat_lt n (if b then n + 1 else n)) early ∙ below-next n

is-own : (s c p : Bool) → s ≡ true → c ≡ true → p ≡ true → (s && c && p) ≡ true
is-own s c p e f g = cc

is-not : (s c p : Bool) → p ≡ false → (s && c && p) ≡ false
is-not true true p e = e
is-not true false p e = refl
is-not false c p e = refl

own-step : (caller : Caller) (key : Bytes) (op : Op) (out : Out) (shared : Option ℕ) (reply : Reply) → is_step_of caller key (Step caller op key out shared reply) ≡ true
own-step caller key op out shared reply =
    is-own (caller.session == caller.session) (caller.call == caller.call) (pointwise ◌==◌ key key) (same-number caller.session) (same-number caller.call) (nat_list_eq_equiv.refl key)

no-step : (caller : Caller) (key q : Bytes) (op : Op) (out : Out) (shared : Option ℕ) (reply : Reply) → pointwise ◌==◌ key q ≡ false → is_step_of caller q (Step caller op key out shared reply) ≡ false
no-step caller key q op out shared reply apart =
    is-not (caller.session == caller.session) (caller.call == caller.call) (pointwise ◌==◌ key q) apart

not-both : (s c : Bool) → s ≡ true → c ≡ true → not (s && c) ≡ false
not-both s c e f = cc

pub or_true : (a b : Bool) → b ≡ true → (a || b) ≡ true
or_true true b e = refl
or_true false b e = e

module _ (caller : Caller) (key : Bytes) (op : Op) (out : Out) (shared : Option ℕ) (reply : Reply) (own own' xs ys : List Event) (was : own ≡ xs ++ ys) (is : own' ≡ xs ++ Step caller op key out shared reply ∷ ys) where
  pub steps-gained : steps_of caller key own ≡ [] → steps_of caller key own' ≡ Step caller op key out shared reply ∷ []
  steps-gained none =
      ap (steps_of caller key) is
      ∙ filter-in (is_step_of caller key) (Step caller op key out shared reply) xs ys (own-step caller key op out shared reply) (ap (steps_of caller key) (sym was) ∙ none)

  pub others-gained : (q : Bytes) → pointwise ◌==◌ key q ≡ false → steps_of caller q own' ≡ steps_of caller q own
  others-gained q apart =
      ap (steps_of caller q) is ∙ filter-out (is_step_of caller q) (Step caller op key out shared reply) xs ys (no-step caller key q op out shared reply apart) ∙ ap (steps_of caller q) (sym was)

  pub former-gained : former_steps caller own' ≡ former_steps caller own
  former-gained =
      ap (former_steps caller) is
      ∙ filter-out (is_former caller) (Step caller op key out shared reply) xs ys (not-both (caller.session == caller.session) (caller.call == caller.call) (same-number caller.session) (same-number caller.call))
      ∙ ap (former_steps caller) (sym was)

  pub before-gained : IsEarly caller → are_before caller own ≡ true → are_before caller own' ≡ true
  before-gained early before =
      ap (are_before caller) is
      ∙ all-in (is_before_call caller.session (one_more caller.call)) (Step caller op key out shared reply) xs ys
      (or_true (not (caller.session == caller.session)) (nat_lt caller.call (one_more caller.call)) (one-later caller.call early)) (ap (are_before caller) (sym was) ∙ before)

-- 3. Who may begin, by the own steps.

come-one : (s lt next eq p : Bool) → (next ≡ true → lt ≡ false → eq ≡ true) → (not s || next) ≡ true → (s && eq && p) ≡ false
    → (not s || lt || (eq && not p)) ≡ true
come-one false lt next eq p f n h = refl
come-one true true next eq p f n h = refl
come-one true false next true p f n h = ap not h
come-one true false next false p f n h = let bad : false ≡ true = f n refl in cc

is-this-next : (m n : ℕ) → nat_lt m (n + 1) ≡ true → nat_lt m n ≡ false → (m == n) ≡ true
is-this-next m n h g = grind (arith, nat_tests)

-- by whether the number isn't the last
is-this-by : (m n : ℕ) (b : Bool) → nat_lt m (if b then n + 1 else n) ≡ true → nat_lt m n ≡ false → (m == n) ≡ true
is-this-by m n true h g = is-this-next m n h g
is-this-by m n false h g = let bad : true ≡ false = sym h ∙ g in cc

is-this : (m n : ℕ) → nat_lt m (one_more n) ≡ true → nat_lt m n ≡ false → (m == n) ≡ true
is-this m n h g = is-this-by m n (nat_lt n last_number) h g

pub may-come-all : (c : Caller) (key : Bytes) (h : List Event) → are_before c h ≡ true → steps_of c key h ≡ [] → may_come_all h c key ≡ true
may-come-all c key [] before none = refl
may-come-all c key (Evict k cause ∷ es) before none = may-come-all c key es before none
may-come-all c key (Step who op k out shared reply ∷ es) before none =
    let b = and_parts (not (who.session == c.session) || nat_lt who.call (one_more c.call)) (list_all (is_before_call c.session (one_more c.call)) es) before in
    let n = none-head (is_step_of c key (Step who op k out shared reply)) (Step who op k out shared reply) (steps_of c key es) none in
    let one = come-one (who.session == c.session) (nat_lt who.call c.call) (nat_lt who.call (one_more c.call)) (who.call == c.call) (pointwise ◌==◌ k key) (is-this who.call c.call) b.0 n.0 in
    ap (λ x. x && list_all (λ e. may_come e c key) es) one ∙ may-come-all c key es b.1 n.1

-- 4. Before the call.

less-differs : (m n : ℕ) → nat_lt m n ≡ true → (m == n) ≡ false
less-differs m n less = grind (arith, nat_tests)

less-next : (m n : ℕ) → nat_lt m n ≡ true → nat_lt m (n + 1) ≡ true
less-next m n less = grind (arith, nat_tests)

less-by : (m n : ℕ) (b : Bool) → nat_lt m n ≡ true → nat_lt m (if b then n + 1 else n) ≡ true
less-by m n true less = less-next m n less
less-by m n false less = less

before-no : (same less eq key : Bool) → (less ≡ true → eq ≡ false) → (not same || less) ≡ true → (same && eq && key) ≡ false
before-no false less eq key f h = refl
before-no true true eq key f h = ap (λ b. b && key) (f refl)
before-no true false eq key f h = cc

before-on : (same less next : Bool) → (less ≡ true → next ≡ true) → (not same || less) ≡ true → (not same || next) ≡ true
before-on false less next f h = refl
before-on true true next f h = f refl
before-on true false next f h = cc

pub no-steps : (caller : Caller) (key : Bytes) (events : List Event) → list_all (is_before_call caller.session caller.call) events ≡ true → steps_of caller key events ≡ []
no-steps caller key [] before = refl
no-steps caller key (Evict k cause ∷ events) before = no-steps caller key events before
no-steps caller key (Step who op k out shared reply ∷ events) before =
    let parts = and_parts (not (who.session == caller.session) || nat_lt who.call caller.call) (list_all (is_before_call caller.session caller.call) events) before in
    ap (λ b. cond b (Step who op k out shared reply ∷ steps_of caller key events) (steps_of caller key events))
    (before-no (who.session == caller.session) (nat_lt who.call caller.call) (who.call == caller.call) (pointwise ◌==◌ k key) (less-differs who.call caller.call) parts.0)
    ∙ no-steps caller key events parts.1

pub still-before : (caller : Caller) (events : List Event) → list_all (is_before_call caller.session caller.call) events ≡ true → are_before caller events ≡ true
still-before caller [] before = refl
still-before caller (Evict k cause ∷ events) before = still-before caller events before
still-before caller (Step who op k out shared reply ∷ events) before =
    let parts = and_parts (not (who.session == caller.session) || nat_lt who.call caller.call) (list_all (is_before_call caller.session caller.call) events) before in
    ap (λ b. b && are_before caller events) (before-on (who.session == caller.session) (nat_lt who.call caller.call) (nat_lt who.call (one_more caller.call)) (less-by who.call caller.call (nat_lt caller.call last_number)) parts.0)
    ∙ still-before caller events parts.1
