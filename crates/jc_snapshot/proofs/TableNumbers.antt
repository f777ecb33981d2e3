-- Things by their numbers in a table.
--     extends_self, extends_twice   a list extends itself, and what it extends
--     number_stays, numbers_stay    numbers stay in a longer table
--     numbers_push                  one more thing, with its number
--     things_equal, numbers_equal   numbers are of one list of things, and in a table of distinct things these have one list of numbers
use Rattle.jc_snapshot.proofs.Common.{◌≡◌, ℕ, ◌<◌, ◌+◌, List, [], ◌∷◌, ◌++◌, length, Some, slice_get, sym, refl, ap, ◌∙◌, append_assoc, append-nil, take, get_or, add-one, same_Some, map-append, IsNumberOf, AreNumbers, Continues, IsDistinctTable}
use Rattle.std.proofs.Math.Seq.{take-suc}
use Rattle.jc_types.proofs.CallerLemmas.{stands_on}

pub extends_self : {A : Type 0} (xs : List A) → Continues xs xs
extends_self xs = ([], sym (append-nil xs))

pub extends_twice : {A : Type 0} (xs ys zs : List A) → Continues xs ys → Continues ys zs → Continues xs zs
extends_twice xs ys zs e f = (e.0 ++ f.0, f.1 ∙ ap (λ l. l ++ f.0) e.1 ∙ append_assoc xs e.0 f.0)

pub number_stays : {A : Type 0} (t u : List A) (x : A) (n : ℕ) → Continues t u → IsNumberOf t x n → IsNumberOf u x n
number_stays t u x n e is = ap (λ l. slice_get l n) e.1 ∙ stands_on t e.0 n x is

head_is : {A : Type 0} (x y : A) (xs ys : List A) → x ∷ xs ≡ y ∷ ys → x ≡ y
head_is x y xs ys e = cc

tail_is : {A : Type 0} (x y : A) (xs ys : List A) → x ∷ xs ≡ y ∷ ys → xs ≡ ys
tail_is x y xs ys e = cc

cons_is : {A : Type 0} (x y : A) (xs ys : List A) → x ≡ y → xs ≡ ys → x ∷ xs ≡ y ∷ ys
cons_is x y xs ys e f = λ i. e i ∷ f i

pub numbers_stay : {A : Type 0} (t u xs : List A) (ns : List ℕ) → Continues t u → AreNumbers t xs ns → AreNumbers u xs ns
numbers_stay t u [] [] e are = refl
numbers_stay t u [] (n ∷ ns) e are = cc
numbers_stay t u (x ∷ xs) [] e are = cc
numbers_stay t u (x ∷ xs) (n ∷ ns) e are =
    cons_is _ _ _ _ (number_stays t u x n e (head_is _ _ _ _ are)) (numbers_stay t u xs ns e (tail_is _ _ _ _ are))

pub numbers_push : {A : Type 0} (t xs : List A) (ns : List ℕ) (x : A) (n : ℕ) → AreNumbers t xs ns → IsNumberOf t x n → AreNumbers t (xs ++ x ∷ []) (ns ++ n ∷ [])
numbers_push t xs ns x n are is =
    map-append (λ m. slice_get t m) ns (n ∷ []) ∙ (λ i. are i ++ is i ∷ []) ∙ sym (map-append (λ y. Some y) xs (x ∷ []))

pub things_equal : {A : Type 0} (t xs ys : List A) (ns : List ℕ) → AreNumbers t xs ns → AreNumbers t ys ns → xs ≡ ys
things_equal t [] [] ns are be = refl
things_equal t [] (y ∷ ys) ns are be = let e = sym are ∙ be in cc
things_equal t (x ∷ xs) [] ns are be = let e = sym are ∙ be in cc
things_equal t (x ∷ xs) (y ∷ ys) [] are be = cc
things_equal t (x ∷ xs) (y ∷ ys) (n ∷ ns) are be =
    cons_is _ _ _ _ (same_Some x y (sym (head_is _ _ _ _ are) ∙ head_is _ _ _ _ be)) (things_equal t xs ys ns (tail_is _ _ _ _ are) (tail_is _ _ _ _ be))

pub numbers_equal : {A : Type 0} (t xs : List A) (ns ms : List ℕ) → IsDistinctTable t → AreNumbers t xs ns → AreNumbers t xs ms → ns ≡ ms
numbers_equal t xs [] [] d are be = refl
numbers_equal t xs [] (m ∷ ms) d are be = let e = are ∙ sym be in cc
numbers_equal t xs (n ∷ ns) [] d are be = let e = are ∙ sym be in cc
numbers_equal t [] (n ∷ ns) (m ∷ ms) d are be = cc
numbers_equal t (x ∷ xs) (n ∷ ns) (m ∷ ms) d are be =
    cons_is _ _ _ _ (d n m x (head_is _ _ _ _ are) (head_is _ _ _ _ be)) (numbers_equal t xs ns ms d (tail_is _ _ _ _ are) (tail_is _ _ _ _ be))

-- the things so far, and the next one
pub take_next : {A : Type 0} (xs : List A) (i : ℕ) (x : A) → i < length xs → x ≡ get_or xs i x → take (i + 1) xs ≡ take i xs ++ x ∷ []
take_next xs i x within is = ap (λ k. take k xs) (add-one i) ∙ take-suc xs i x within ∙ ap (λ y. take i xs ++ y ∷ []) (sym is)
