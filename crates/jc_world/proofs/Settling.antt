-- The open keys of a call, and what is left of a call and of the calls under way once a key of one has its reply or last refusal.
--     open_now               a test of all open keys holds of each
--     done_for               what is done at an open key
--     Left                   a call that goes on: what it does or may still do at a key it did before, and not at the key that was
--                            settled
--     still_called           a call continues at each other key
--     calls_settled          the calls fit another world
--     each_settled           a fact of each call
use Rattle.jc_world.proofs.Common.{◌≡◌, ℕ, Bool, true, false, cond, not, ◌&&◌, ◌||◌, List, [], ◌∷◌, is_some, IsSomeAnd, ◌==◌, Some, None, filter, Option, find, sym, refl, ap, ◌∙◌, subst, not-true, eqb-true, eq-eqb, and_parts, and_from, or_right, false_from_ne_true, pointwise, list_any, list_all, cons_option, keys_of, lookup, set_value, option_flatten, Caller, Refusal, Bytes, Op, Task, CallState, has_number, op_in, op_at, op_or_found, op_for, is_open, open_in, open_keys, is_going, going_on, settled, replaced, settle, is_apart, FitsCall, CallsFit, Each, IsCallOf, WorldState}
use Rattle.jc_world.proofs.Underway.{same_bytes, calls_on, found_number}

-- 1. Open keys.

-- what is after another key
behind : (q : Bytes) (task : Task) (tasks : List Task) → pointwise ◌==◌ q task.0 ≡ false → op_in (task ∷ tasks) q ≡ op_in tasks q
behind q task tasks e = ap (λ b. option_flatten (cond b (Some task.1) (lookup (pointwise ◌==◌ q) tasks))) e

-- and what is at this one
ahead : (q : Bytes) (task : Task) (tasks : List Task) → pointwise ◌==◌ q task.0 ≡ true → op_in (task ∷ tasks) q ≡ task.1
ahead q task tasks e = ap (λ b. option_flatten (cond b (Some task.1) (lookup (pointwise ◌==◌ q) tasks))) e

in_all : (p : Bytes → Bool) (tasks : List Task) (key : Bytes) (op : Op) → op_in tasks key ≡ Some op → list_all p (open_in tasks) ≡ true → p key ≡ true
in_all p [] key op h all = cc
in_all p (task ∷ tasks) key op h all =
    elim (pointwise ◌==◌ key task.0) as (λ b. pointwise ◌==◌ key task.0 ≡ b → p key ≡ true) [
      | true ↦ λ e.
          let first : list_all p (cond true (task.0 ∷ open_in tasks) (open_in tasks)) ≡ true =
          ap (λ b. list_all p (keys_of (cond b (task ∷ filter is_open tasks) (filter is_open tasks)))) (sym (ap is_some (sym (ahead key task tasks e) ∙ h))) ∙ all in
          ap p (same_bytes key task.0 e) ∙ (and_parts (p task.0) (list_all p (open_in tasks)) first).0
      | false ↦ λ e. in_all p tasks key op (sym (behind key task tasks e) ∙ h) (later (is_open task) all)
    ] refl
  where
    later : (b : Bool) → list_all p (keys_of (cond b (task ∷ filter is_open tasks) (filter is_open tasks))) ≡ true → list_all p (open_in tasks) ≡ true
    later true all = (and_parts (p task.0) (list_all p (open_in tasks)) all).1
    later false all = all

-- what is true of all open keys is true of each
pub open_now : (p : Bytes → Bool) (u : CallState) (key : Bytes) (op : Op) → op_at u key ≡ Some op → list_all p (open_keys u) ≡ true → p key ≡ true
open_now p u key op h all = in_all p u.tasks key op h all

-- if something is done, a key is open
pub some_open : (tasks : List Task) (key : Bytes) (op : Op) → op_in tasks key ≡ Some op → list_any is_open tasks ≡ true
some_open [] key op h = cc
some_open (task ∷ tasks) key op h =
    elim (pointwise ◌==◌ key task.0) as (λ b. pointwise ◌==◌ key task.0 ≡ b → (is_open task || list_any is_open tasks) ≡ true) [
      | true ↦ λ e. ap (λ b. b || list_any is_open tasks) (ap is_some (sym (ahead key task tasks e) ∙ h))
      | false ↦ λ e. or_right (is_open task) (list_any is_open tasks) (some_open tasks key op (sym (behind key task tasks e) ∙ h))
    ] refl

-- 2. Tasks of which a key was settled.

-- nothing is done at the key
at_self : (key q : Bytes) (tasks : List Task) → q ≡ key → op_in (set_value (pointwise ◌==◌ key) tasks None) q ≡ None
at_self key q [] same = refl
at_self key q (task ∷ tasks) same =
    elim (pointwise ◌==◌ key task.0) as (λ b. pointwise ◌==◌ key task.0 ≡ b → op_in (cond b ((task.0, None) ∷ tasks) (task ∷ set_value (pointwise ◌==◌ key) tasks None)) q ≡ None) [
      | true ↦ λ e. ahead q (task.0, None) tasks (ap (λ k. pointwise ◌==◌ k task.0) same ∙ e)
      | false ↦ λ e. behind q task (set_value (pointwise ◌==◌ key) tasks None) (ap (λ k. pointwise ◌==◌ k task.0) same ∙ e) ∙ at_self key q tasks same
    ] refl

-- at each other key the same is done
pub at_other : (key q : Bytes) (tasks : List Task) → (q ≡ key → ⊥) → op_in (set_value (pointwise ◌==◌ key) tasks None) q ≡ op_in tasks q
at_other key q [] other = refl
at_other key q (task ∷ tasks) other =
    elim (pointwise ◌==◌ key task.0) as (λ b. pointwise ◌==◌ key task.0 ≡ b → op_in (cond b ((task.0, None) ∷ tasks) (task ∷ set_value (pointwise ◌==◌ key) tasks None)) q ≡ op_in (task ∷ tasks) q) [
      | true ↦ λ e.
          let apart = false_from_ne_true (pointwise ◌==◌ q task.0) (λ at. other (same_bytes q task.0 at ∙ sym (same_bytes key task.0 e))) in
          behind q (task.0, None) tasks apart ∙ sym (behind q task tasks apart)
      | false ↦ λ e. elim (pointwise ◌==◌ q task.0) as (λ b. option_flatten (cond b (Some task.1) (lookup (pointwise ◌==◌ q) (set_value (pointwise ◌==◌ key) tasks None))) ≡ option_flatten (cond b (Some task.1) (lookup (pointwise ◌==◌ q) tasks))) [ true ↦ refl | false ↦ at_other key q tasks other ]
    ] refl

-- 3. A call of which a key was settled.

-- what is done at an open key
pub done_for : (u : CallState) (q : Bytes) (op : Op) → op_at u q ≡ Some op → op_for u q ≡ Some op
done_for u q op h = go (lookup (pointwise ◌==◌ q) u.tasks) h
  where
    go : (o : Option (Option Op)) → option_flatten o ≡ Some op → op_or_found u.sweep o ≡ Some op
    go None h = cc
    go (Some one) h = h

-- the call continues: what it does or may still do at a key it did before, and another key was settled
pub record Left (call : ℕ) (key : Bytes) (u v : CallState) : Type 0 where
  pub caller_is : v.caller ≡ u.caller
  pub sweep_is : v.sweep ≡ u.sweep
  pub keys_are : keys_of v.tasks ≡ keys_of u.tasks
  pub was : (q : Bytes) (op : Op) → op_for v q ≡ Some op → op_for u q ≡ Some op
  pub other : (q : Bytes) (op one : Op) → op_for v q ≡ Some op → op_at u q ≡ Some one → u.caller.call ≡ call → q ≡ key → ⊥

-- the call that continues is the one that there is
pub going_is : (u v : CallState) → going_on u ≡ Some v → v ≡ u
going_is u v h = go (is_going u) h
  where
    go : (b : Bool) → cond b (Some u) None ≡ Some v → v ≡ u
    go true h = let is : u ≡ v = cc in sym is
    go false h = cc

-- a call with an open key continues
pub goes_at : (u : CallState) (q : Bytes) (op : Op) → op_at u q ≡ Some op → is_going u ≡ true
goes_at u q op at = or_right (is_some u.sweep) (list_any is_open u.tasks) (some_open u.tasks q op at)

-- so one that doesn't has none
pub none_left : (u : CallState) (q : Bytes) (op : Op) → going_on u ≡ None → op_at u q ≡ Some op → ⊥
none_left u q op h at = let t : Some u ≡ None = ap (λ b. cond b (Some u) None) (sym (goes_at u q op at)) ∙ h in cc

-- a key that is settled is looked up as such, and another as before
looked_up : (key q : Bytes) (tasks : List Task) (P : Option (Option Op) → Type 0) → ((one : Option Op) → lookup (pointwise ◌==◌ q) tasks ≡ Some one → P (Some None)) → P (lookup (pointwise ◌==◌ q) tasks)
    → P (lookup (pointwise ◌==◌ q) (set_value (pointwise ◌==◌ key) tasks None))
looked_up key q [] P self same = same
looked_up key q (task ∷ tasks) P self same =
    elim (pointwise ◌==◌ key task.0) as (λ b. P (lookup (pointwise ◌==◌ q) (cond b ((task.0, None) ∷ tasks) (task ∷ set_value (pointwise ◌==◌ key) tasks None)))) [
      | true ↦ elim (pointwise ◌==◌ q task.0) as (λ b. ((one : Option Op) → cond b (Some task.1) (lookup (pointwise ◌==◌ q) tasks) ≡ Some one → P (Some None)) → P (cond b (Some task.1) (lookup (pointwise ◌==◌ q) tasks)) → P (cond b (Some None) (lookup (pointwise ◌==◌ q) tasks))) [
        | true ↦ λ self same. self task.1 refl
        | false ↦ λ self same. same
      ] self same
      | false ↦ elim (pointwise ◌==◌ q task.0) as (λ b. ((one : Option Op) → cond b (Some task.1) (lookup (pointwise ◌==◌ q) tasks) ≡ Some one → P (Some None)) → P (cond b (Some task.1) (lookup (pointwise ◌==◌ q) tasks)) → P (cond b (Some task.1) (lookup (pointwise ◌==◌ q) (set_value (pointwise ◌==◌ key) tasks None)))) [
        | true ↦ λ self same. same
        | false ↦ λ self same. looked_up key q tasks P self same
      ] self same
    ]

left_was : (key : Bytes) (u : CallState) (q : Bytes) (op : Op) → op_or_found u.sweep (lookup (pointwise ◌==◌ q) (set_value (pointwise ◌==◌ key) u.tasks None)) ≡ Some op → op_for u q ≡ Some op
left_was key u q op h = looked_up key q u.tasks (λ o. op_or_found u.sweep o ≡ Some op → op_for u q ≡ Some op) (λ one is h. cc) (λ h. h) h

-- if something is done, a key is looked up
done_there : (o : Option (Option Op)) (one : Op) → option_flatten o ≡ Some one → (two : Option Op) × (o ≡ Some two)
done_there None one h = cc
done_there (Some two) one h = (two, refl)

left_other : (key : Bytes) (u : CallState) (q : Bytes) (op one : Op) → op_or_found u.sweep (lookup (pointwise ◌==◌ q) (set_value (pointwise ◌==◌ key) u.tasks None)) ≡ Some op → op_at u q ≡ Some one → q ≡ key → ⊥
left_other key u q op one now at same =
    let there = done_there (lookup (pointwise ◌==◌ q) u.tasks) one at in
    let none = at_self key q u.tasks same in
    gone (lookup (pointwise ◌==◌ q) (set_value (pointwise ◌==◌ key) u.tasks None)) none (still_there key q u.tasks there.0 there.1) now
  where
    gone : (o : Option (Option Op)) → option_flatten o ≡ None → is_some o ≡ true → op_or_found u.sweep o ≡ Some op → ⊥
    gone None none some h = cc
    gone (Some o) none some h = let t : None ≡ Some op = sym none ∙ h in cc

    still_there : (key q : Bytes) (tasks : List Task) (two : Option Op) → lookup (pointwise ◌==◌ q) tasks ≡ Some two → is_some (lookup (pointwise ◌==◌ q) (set_value (pointwise ◌==◌ key) tasks None)) ≡ true
    still_there key q tasks two at = looked_up key q tasks (λ o. is_some o ≡ true) (λ x is. refl) (ap is_some at)

keys_left : (key : Bytes) (tasks : List Task) → keys_of (set_value (pointwise ◌==◌ key) tasks None) ≡ keys_of tasks
keys_left key [] = refl
keys_left key (task ∷ tasks) = elim (pointwise ◌==◌ key task.0) as (λ b. keys_of (cond b ((task.0, None) ∷ tasks) (task ∷ set_value (pointwise ◌==◌ key) tasks None)) ≡ task.0 ∷ keys_of tasks) [ true ↦ refl | false ↦ ap (λ ks. task.0 ∷ ks) (keys_left key tasks) ]

left_of : (call : ℕ) (key : Bytes) (met : Option Refusal) (u v : CallState) → going_on (settled key met u) ≡ Some v → Left call key u v
left_of call key met u v is =
    let v_is = going_is (settled key met u) v is in
    let back = λ (q : Bytes) (op : Op) (h : op_for v q ≡ Some op). ap (λ (x : CallState). op_for x q) (sym v_is) ∙ h in
    record {
      caller_is = ap (λ (x : CallState). x.caller) v_is;
      sweep_is = ap (λ (x : CallState). x.sweep) v_is;
      keys_are = ap (λ (x : CallState). keys_of x.tasks) v_is ∙ keys_left key u.tasks;
      was = λ q op h. left_was key u q op (back q op h);
      other = λ q op one h at mine. left_other key u q op one (back q op h) at;
    }

-- a call with another number is left as it is
left_same : (call : ℕ) (key : Bytes) (u : CallState) → has_number call u ≡ false → Left call key u u
left_same call key u apart = record {
  caller_is = refl;
  sweep_is = refl;
  keys_are = refl;
  was = λ q op h. h;
  other = λ q op one h at mine same. let t : true ≡ false = sym (eq-eqb u.caller.call call mine) ∙ apart in cc;
}

-- 4. The calls under way.

-- a fact of a call at a key that stays open
abbrev Goes : ℕ → ℕ → Bytes → Op → List CallState → Type 0
Goes number session q op calls = IsSomeAnd (find (has_number number) calls) (IsCallOf session q op)

-- what is after a call that is not looked for
pub goes_behind : (number session : ℕ) (q : Bytes) (op : Op) (x : CallState) (calls : List CallState) → has_number number x ≡ false → Goes number session q op calls → Goes number session q op (x ∷ calls)
goes_behind number session q op x calls apart h = let P : Bool → Type 0 = λ b. IsSomeAnd (cond b (Some x) (find (has_number number) calls)) (IsCallOf session q op) in subst P (sym apart) h

-- one that is looked for is found
pub goes_here : (number session : ℕ) (q : Bytes) (op : Op) (x : CallState) (calls : List CallState) → has_number number x ≡ true → IsCallOf session q op x → Goes number session q op (x ∷ calls)
goes_here number session q op x calls mine h = let P : Bool → Type 0 = λ b. IsSomeAnd (cond b (Some x) (find (has_number number) calls)) (IsCallOf session q op) in subst P (sym mine) h

-- a call that another has replaced, or none, continues at a key, if what is left of it does
pub still_replaced : (call : ℕ) (left : CallState → Option CallState) (number session : ℕ) (q : Bytes) (op : Op) (calls : List CallState) → ((u v : CallState) → find (has_number call) calls ≡ Some u → left u ≡ Some v → v.caller ≡ u.caller)
    → ((u v : CallState) → find (has_number call) calls ≡ Some u → left u ≡ Some v → u.caller.call ≡ number → IsCallOf session q op u → IsCallOf session q op v)
    → ((u : CallState) → find (has_number call) calls ≡ Some u → left u ≡ None → u.caller.call ≡ number → IsCallOf session q op u → ⊥) → Goes number session q op calls → Goes number session q op (replaced call left calls)
still_replaced call left number session q op [] same now over h = h
still_replaced call left number session q op (x ∷ xs) same now over h =
    elim (has_number call x) as (λ b. has_number call x ≡ b → Goes number session q op (cond b (cons_option (left x) xs) (x ∷ replaced call left xs))) [
      | true ↦ λ e. elim (has_number number x) as (λ c. has_number number x ≡ c → IsSomeAnd (cond c (Some x) (find (has_number number) xs)) (IsCallOf session q op) → Goes number session q op (cons_option (left x) xs)) [
        | true ↦ λ f h. here (left x) refl (ap (λ b. cond b (Some x) (find (has_number call) xs)) e) f h
        | false ↦ λ f h. passed (left x) refl (ap (λ b. cond b (Some x) (find (has_number call) xs)) e) f h
      ] refl h
      | false ↦ λ e.
          let at = λ (u : CallState) (is : find (has_number call) xs ≡ Some u). ap (λ b. cond b (Some x) (find (has_number call) xs)) e ∙ is in
          elim (has_number number x) as (λ c. IsSomeAnd (cond c (Some x) (find (has_number number) xs)) (IsCallOf session q op) → IsSomeAnd (cond c (Some x) (find (has_number number) (replaced call left xs))) (IsCallOf session q op)) [
            | true ↦ λ h. h
            | false ↦ λ h. still_replaced call left number session q op xs (λ u v is. same u v (at u is)) (λ u v is. now u v (at u is)) (λ u is. over u (at u is)) h
          ] h
    ] refl
  where
    here : (o : Option CallState) → left x ≡ o → find (has_number call) (x ∷ xs) ≡ Some x → has_number number x ≡ true → IsCallOf session q op x → Goes number session q op (cons_option o xs)
    here None e is mine of = absurd (over x is e (eqb-true x.caller.call number mine) of)
    here (Some v) e is mine of = goes_here number session q op v xs (ap (λ (c : Caller). c.call == number) (same x v is e) ∙ mine) (now x v is e (eqb-true x.caller.call number mine) of)

    passed : (o : Option CallState) → left x ≡ o → find (has_number call) (x ∷ xs) ≡ Some x → has_number number x ≡ false → Goes number session q op xs → Goes number session q op (cons_option o xs)
    passed None e is apart h = h
    passed (Some v) e is apart h = goes_behind number session q op v xs (ap (λ (c : Caller). c.call == number) (same x v is e) ∙ apart) h

pub still_called : (call : ℕ) (key : Bytes) (met : Option Refusal) (number session : ℕ) (q : Bytes) (op : Op) (calls : List CallState) → (number ≡ call → q ≡ key → ⊥) → IsSomeAnd (find (has_number number) calls) (IsCallOf session q op)
    → IsSomeAnd (find (has_number number) (settle call key met calls)) (IsCallOf session q op)
still_called call key met number session q op calls other h =
    still_replaced call (λ u. going_on (settled key met u)) number session q op calls (λ u v is e. (left_of call key met u v e).caller_is)
    (λ u v is e mine of.
    let v_is = going_is (settled key met u) v e in
    let away = other (sym mine ∙ mine_of u is) in
    (ap (λ (c : CallState). c.caller.session) v_is ∙ of.0, ap (λ (c : CallState). op_at c q) v_is ∙ at_other key q u.tasks away ∙ of.1))
    (λ u is e mine of. none_left (settled key met u) q op e (at_other key q u.tasks (other (sym mine ∙ mine_of u is)) ∙ of.1)) h
  where
    mine_of : (u : CallState) → find (has_number call) calls ≡ Some u → u.caller.call ≡ call
    mine_of u is = found_number call calls u is

-- calls that are apart stay so
pub apart_of : (x y v : CallState) → v.caller ≡ y.caller → is_apart x y ≡ true → is_apart x v ≡ true
apart_of x y v same h = ap (λ (c : Caller). not (c.session == x.caller.session) && not (c.call == x.caller.call)) same ∙ h

apart_replaced : (call : ℕ) (left : CallState → Option CallState) (x : CallState) (calls : List CallState) → ((u v : CallState) → find (has_number call) calls ≡ Some u → left u ≡ Some v → v.caller ≡ u.caller) → list_all (is_apart x) calls ≡ true
    → list_all (is_apart x) (replaced call left calls) ≡ true
apart_replaced call left x [] same h = refl
apart_replaced call left x (y ∷ ys) same h =
    let parts = and_parts (is_apart x y) (list_all (is_apart x) ys) h in
    elim (has_number call y) as (λ b. has_number call y ≡ b → list_all (is_apart x) (cond b (cons_option (left y) ys) (y ∷ replaced call left ys)) ≡ true) [
      | true ↦ λ e. go (left y) refl (ap (λ b. cond b (Some y) (find (has_number call) ys)) e) parts.0 parts.1
      | false ↦ λ e. and_from _ _ parts.0 (apart_replaced call left x ys (λ u v is. same u v (ap (λ b. cond b (Some y) (find (has_number call) ys)) e ∙ is)) parts.1)
    ] refl
  where
    go : (o : Option CallState) → left y ≡ o → find (has_number call) (y ∷ ys) ≡ Some y → is_apart x y ≡ true → list_all (is_apart x) ys ≡ true → list_all (is_apart x) (cons_option o ys) ≡ true
    go None e is apart rest = rest
    go (Some v) e is apart rest = and_from _ _ (apart_of x y v (same y v is e) apart) rest

-- so they are apart from what is left of a call
pub apart_from : (x v : CallState) (calls : List CallState) → v.caller ≡ x.caller → list_all (is_apart x) calls ≡ true → list_all (is_apart v) calls ≡ true
apart_from x v calls same h = ap (λ (c : Caller). list_all (λ (y : CallState). not (y.caller.session == c.session) && not (y.caller.call == c.call)) calls) same ∙ h

-- a call apart from one with this number has another
other_number : (call : ℕ) (x y : CallState) → has_number call x ≡ true → is_apart x y ≡ true → has_number call y ≡ false
other_number call x y mine apart =
    ap (λ n. y.caller.call == n) (sym (eqb-true x.caller.call call mine))
    ∙ not-true (y.caller.call == x.caller.call) (and_parts (not (y.caller.session == x.caller.session)) (not (y.caller.call == x.caller.call)) apart).1

-- the calls fit another world, once one of them is replaced
pub calls_replaced : (w n : WorldState) (call : ℕ) (left : CallState → Option CallState) (P : CallState → Type 0) (calls : List CallState) → ((u v : CallState) → find (has_number call) calls ≡ Some u → left u ≡ Some v → v.caller ≡ u.caller)
    → ((x : CallState) → has_number call x ≡ false → P x → FitsCall w x → FitsCall n x) → ((u v : CallState) → find (has_number call) calls ≡ Some u → left u ≡ Some v → P u → FitsCall w u → FitsCall n v)
    → Each P calls → CallsFit w calls → CallsFit n (replaced call left calls)
calls_replaced w n call left P [] same on now each fit = tt
calls_replaced w n call left P (x ∷ xs) same on now each fit =
    elim (has_number call x) as (λ b. has_number call x ≡ b → CallsFit n (cond b (cons_option (left x) xs) (x ∷ replaced call left xs))) [
      | true ↦ λ e. go (left x) refl (ap (λ b. cond b (Some x) (find (has_number call) xs)) e) (calls_on w n (λ y. P y × (has_number call y ≡ false)) xs (λ y h fits. on y h.1 h.0 fits) (both e xs each.1 fit.1) fit.2)
      | false ↦ λ e.
          let at = λ (u : CallState) (is : find (has_number call) xs ≡ Some u). ap (λ b. cond b (Some x) (find (has_number call) xs)) e ∙ is in
          (on x e each.0 fit.0, apart_replaced call left x xs (λ u v is. same u v (at u is)) fit.1, calls_replaced w n call left P xs (λ u v is. same u v (at u is)) on (λ u v is. now u v (at u is)) each.1 fit.2)
    ] refl
  where
    both : has_number call x ≡ true → (ys : List CallState) → Each P ys → list_all (is_apart x) ys ≡ true → Each (λ y. P y × (has_number call y ≡ false)) ys
    both mine [] each apart = tt
    both mine (y ∷ ys) each apart =
        let parts = and_parts (is_apart x y) (list_all (is_apart x) ys) apart in
        ((each.0, other_number call x y mine parts.0), both mine ys each.1 parts.1)

    go : (o : Option CallState) → left x ≡ o → find (has_number call) (x ∷ xs) ≡ Some x → CallsFit n xs → CallsFit n (cons_option o xs)
    go None e is rest = rest
    go (Some v) e is rest = (now x v is e each.0 fit.0, apart_from x v xs (same x v is e) fit.1, rest)

pub calls_settled : (w n : WorldState) (call : ℕ) (key : Bytes) (met : Option Refusal) (P : CallState → Type 0) (calls : List CallState) → ((u v : CallState) → Left call key u v → P u → FitsCall w u → FitsCall n v) → Each P calls → CallsFit w calls
    → CallsFit n (settle call key met calls)
calls_settled w n call key met P calls f each fit =
    calls_replaced w n call (λ u. going_on (settled key met u)) P calls (λ u v is e. (left_of call key met u v e).caller_is)
    (λ x apart p h. f x x (left_same call key x apart) p h) (λ u v is e p h. f u v (left_of call key met u v e) p h) each fit

-- a fact of each call holds of what is left of one
pub each_replaced : (call : ℕ) (left : CallState → Option CallState) (P : CallState → Type 0) (calls : List CallState) → ((u v : CallState) → find (has_number call) calls ≡ Some u → left u ≡ Some v → P u → P v) → Each P calls → Each P (replaced call left calls)
each_replaced call left P [] f each = tt
each_replaced call left P (x ∷ xs) f each =
    elim (has_number call x) as (λ b. has_number call x ≡ b → Each P (cond b (cons_option (left x) xs) (x ∷ replaced call left xs))) [
      | true ↦ λ e. go (left x) refl (ap (λ b. cond b (Some x) (find (has_number call) xs)) e)
      | false ↦ λ e. (each.0, each_replaced call left P xs (λ u v is. f u v (ap (λ b. cond b (Some x) (find (has_number call) xs)) e ∙ is)) each.1)
    ] refl
  where
    go : (o : Option CallState) → left x ≡ o → find (has_number call) (x ∷ xs) ≡ Some x → Each P (cons_option o xs)
    go None e is = each.1
    go (Some v) e is = (f x v is e each.0, each.1)

pub each_settled : (call : ℕ) (key : Bytes) (met : Option Refusal) (P : CallState → Type 0) (calls : List CallState) → ((u v : CallState) → Left call key u v → P u → P v) → Each P calls → Each P (settle call key met calls)
each_settled call key met P calls f each = each_replaced call (λ u. going_on (settled key met u)) P calls (λ u v is e p. f u v (left_of call key met u v e) p) each
