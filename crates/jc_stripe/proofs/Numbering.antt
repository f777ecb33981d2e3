-- What keeps the keys and the numbers of reservations apart, and what a claim tells of its reservation.
use Rattle.std.proofs.Common.{◌≡◌, ◌==◌, ◌<◌, ◌+◌, ◌||◌, ℕ, suc, List, [], ◌∷◌, ◌++◌, length, get_or, Bool, true, false, cond, not, Some, find, refl, sym, ap, ◌∙◌, arith}
use Rattle.std.proofs.lemmas.Bool.Decides.{nat_tests}
use Rattle.std.proofs.lemmas.Cmp.{nat_list_eq_equiv}
use Rattle.std.proofs.lemmas.List.Elements.{All-push, All-filter}
use Rattle.std.proofs.lemmas.List.Folds.{list_any_at}
use Rattle.std.proofs.lemmas.List.Kept.{AllPairs-filter}
use Rattle.std.proofs.lemmas.List.Quantifiers.{all_pairs_push}
use Rattle.std.specs.List.{AllPairs, All, list_any}
use Rattle.std.specs.Cmp.Lexicographic.{same_text}
use Rattle.std.proofs.lemmas.Bool.{eq-eqb}
use Rattle.jc_types.proofs.CallerLemmas.{found_test, found_holds}
use Rattle.jc_model.specs.Cache.{Bytes}
use Rattle.jc_stripe.specs.State.{is_key, without_key}
use Rattle.jc_stripe.specs.Reached.{AreNumbered}
use Rattle.jc_stripe.specs.declared.ticket.Reservation.{Reservation}

-- 1. What is found.

pub later_pairs : {X : Type 0} (R : X → X → Type 0) (x : X) (xs : List X) → AllPairs R (x ∷ xs) → AllPairs R xs
later_pairs R x xs h i j d lt within = h (suc i) (suc j) d (omega arith) (omega arith)

pub first_pairs : {X : Type 0} (R : X → X → Type 0) (x : X) (xs : List X) → AllPairs R (x ∷ xs) → All (λ y. R x y) xs
first_pairs R x xs h k d within = h 0 (suc k) d (omega arith) (omega arith)

-- two that are found are one, where no two have in common what these have
pub found_once : {X : Type 0} (e : X → X → Bool) (p q : X → Bool) (xs : List X) (r s : X) → AllPairs (λ x y. e x y ≡ false) xs → find p xs ≡ Some r → find q xs ≡ Some s → e r s ≡ true → e s r ≡ true → r ≡ s
found_once e p q [] r s once h g t u = cc
found_once {X} e p q (x ∷ xs) r s once h g t u =
    let later = later_pairs (λ x y. e x y ≡ false) x xs once in
    let first = first_pairs (λ x y. e x y ≡ false) x xs once in
    elim (p x) as (λ b. cond b (Some x) (find p xs) ≡ Some r → r ≡ s) [
      | true ↦ λ h. let is : x ≡ r = cc in elim (q x) as (λ b. cond b (Some x) (find q xs) ≡ Some s → r ≡ s) [
        | true ↦ λ g. cc
        | false ↦ λ g. let no : e x s ≡ false = found_holds q (λ y. e x y ≡ false) xs s g first in cc
      ] g
      | false ↦ λ h. elim (q x) as (λ b. cond b (Some x) (find q xs) ≡ Some s → r ≡ s) [
        | true ↦ λ g. let is : x ≡ s = cc in let no : e x r ≡ false = found_holds p (λ y. e x y ≡ false) xs r h first in cc
        | false ↦ λ g. found_once e p q xs r s later h g t u
      ] g
    ] h

-- 2. What is found at a key.

pub key_found : (key : Bytes) (rs : List Reservation) (r : Reservation) → find (is_key key) rs ≡ Some r → key ≡ r.key
key_found key rs r h = same_text key r.key (sym (found_test (is_key key) rs r h))

-- no two have one number
pub one_number : (next : ℕ) (rs : List Reservation) (k l : Bytes) (r s : Reservation) → AreNumbered next rs → find (is_key k) rs ≡ Some r → find (is_key l) rs ≡ Some s → r.number ≡ s.number → r ≡ s
one_number next rs k l r s numbered h g e =
    found_once (λ (x : Reservation) (y : Reservation). x.number == y.number) (is_key k) (is_key l) rs r s numbered.numbers h g (eq-eqb _ _ e) (eq-eqb _ _ (sym e))

-- 3. A reservation more, and less.

-- without a key that no reservation has they are the same
pub without_none : (key : Bytes) (rs : List Reservation) → list_any (is_key key) rs ≡ false → without_key key rs ≡ rs
without_none key [] h = refl
without_none key (r ∷ rs) h =
    elim (is_key key r) as (λ b. (b || list_any (is_key key) rs) ≡ false → cond (not b) (r ∷ without_key key rs) (without_key key rs) ≡ r ∷ rs) [
      | true ↦ λ h. cc
      | false ↦ λ h. ap (λ xs. r ∷ xs) (without_none key rs h)
    ] h

-- a key that is free is no reservation's
other_key : (rs : List Reservation) (r : Reservation) (k : ℕ) (d : Reservation) → k < length rs → list_any (is_key r.key) rs ≡ false → is_key (get_or rs k d).key r ≡ false
other_key rs r k d within free =
    let x = get_or rs k d in
    elim (is_key r.key x) as (λ b. is_key r.key x ≡ b → is_key x.key r ≡ false) [
      | true ↦ λ e. let found = list_any_at (is_key r.key) rs k d within e in cc
      | false ↦ λ e. nat_list_eq_equiv.symm x.key r.key ∙ e
    ] refl

pub below_other : (m n : ℕ) → m < n → (m == n) ≡ false
below_other m n h = grind (arith, nat_tests)

pub numbered-push : (next : ℕ) (rs : List Reservation) (r : Reservation) → AreNumbered next rs → r.number ≡ next → list_any (is_key r.key) rs ≡ false → AreNumbered (next + 1) (rs ++ r ∷ [])
numbered-push next rs r old number free = record {
  once = all_pairs_push (λ r later. is_key r.key later ≡ false) rs r old.once (λ k d l. other_key rs r k d l free);
  numbers = all_pairs_push (λ r later. (r.number == later.number) ≡ false) rs r old.numbers (λ k d l. let b = old.below k d l in below_other _ _ (omega arith));
  below = All-push (λ r. r.number < next + 1) rs r (λ k d l. let b = old.below k d l in omega arith) (omega arith);
}

pub numbered-left : (next : ℕ) (rs : List Reservation) (key : Bytes) → AreNumbered next rs → AreNumbered next (without_key key rs)
numbered-left next rs key old = record {
  once = AllPairs-filter (λ r later. is_key r.key later ≡ false) (λ r. not (is_key key r)) rs old.once;
  numbers = AllPairs-filter (λ r later. (r.number == later.number) ≡ false) (λ r. not (is_key key r)) rs old.numbers;
  below = All-filter (λ r. not (is_key key r)) (λ r. r.number < next) rs old.below;
}
