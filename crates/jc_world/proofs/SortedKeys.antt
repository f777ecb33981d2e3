-- Two sorted lists of the same keys are one list.
use Rattle.jc_world.proofs.Common.{◌≡◌, ℕ, suc, ◌+◌, List, [], ◌∷◌, Bool, true, false, cond, refl, sym, ap, ◌∙◌, arith, true≢false, Ordering, Less, Equal, Greater, IsTotalOrder, sum_by-cons, Bytes, key_cmp, same_key}
use Rattle.std.specs.Ordering.{is_lt, is_eq, is_gt, ordering_reverse}
use Rattle.std.specs.List.{sum_by}
use Rattle.std.specs.List.Sorted.{IsPermutation, IsSorted}
use Rattle.std.proofs.lemmas.Cmp.{nat_list_cmp_total, upto, tied_itself}
use Rattle.std.proofs.lemmas.List.Sorted.{sum_by-IsPermutation}
use native.Mathlib.Numerals.{unary_clauses}

keys_total : IsTotalOrder key_cmp
keys_total = nat_list_cmp_total

turned : (r : Ordering) → is_gt (ordering_reverse r) ≡ is_lt r
turned Less = refl
turned Equal = refl
turned Greater = refl

-- a key isn't above another exactly if that one isn't below it
not_above : (x y : Bytes) → is_gt (key_cmp x y) ≡ is_lt (key_cmp y x)
not_above x y = ap is_gt (keys_total.antisymm x y) ∙ turned (key_cmp y x)

-- whether a key is below another, as a number
abbrev below : Bytes → Bytes → ℕ
below x z = cond (is_lt (key_cmp z x)) 1 0

none_below : (x z : Bytes) → is_lt (key_cmp z x) ≡ false → below x z ≡ 0
none_below x z h = ap (λ (b : Bool). cond b 1 0) h

is_none_below : (b : Bool) (n : ℕ) → cond b 1 0 + n ≡ 0 → b ≡ false
is_none_below true n h = absurd (omega (arith, h))
is_none_below false n h = refl

tail_sorted : (x : Bytes) (xs : List Bytes) → IsSorted key_cmp (x ∷ xs) → IsSorted key_cmp xs
tail_sorted x xs h k d low high =
    let there = h (suc k) d (omega arith) (omega arith) in
    simp unary_clauses (simp unary_clauses at there)

-- none of a sorted list is below a key that isn't above its first
least : (x y : Bytes) (ys : List Bytes) → is_gt (key_cmp x y) ≡ false → IsSorted key_cmp (y ∷ ys) → sum_by (below x) (y ∷ ys) ≡ 0
least x y [] h sorted =
    let here : below x y ≡ 0 = none_below x y (sym (not_above x y) ∙ h) in
    omega (arith, sum_by-cons (below x) y [], here)
least x y (z ∷ zs) h sorted =
    let here : below x y ≡ 0 = none_below x y (sym (not_above x y) ∙ h) in
    let next : is_gt (key_cmp y z) ≡ false = not_above y z ∙ sorted 0 y (omega arith) (omega arith) in
    let rest : sum_by (below x) (z ∷ zs) ≡ 0 = least x z zs (upto keys_total x y z h next) (tail_sorted y (z ∷ zs) sorted) in
    omega (arith, sum_by-cons (below x) y (z ∷ zs), here, rest)

first_is_least : (x : Bytes) (xs : List Bytes) → IsSorted key_cmp (x ∷ xs) → sum_by (below x) (x ∷ xs) ≡ 0
first_is_least x xs sorted = least x x xs (ap is_gt (tied_itself keys_total x)) sorted

abbrev SameSums : List Bytes → List Bytes → Type 0
SameSums xs ys = (f : Bytes → ℕ) → sum_by f xs ≡ sum_by f ys

is_tie : (r : Ordering) → is_lt r ≡ false → is_gt r ≡ false → is_eq r ≡ true
is_tie Less h k = absurd (true≢false h)
is_tie Equal h k = refl
is_tie Greater h k = absurd (true≢false k)

-- the first of one list isn't below the first of the other
not_below_first : (x y : Bytes) (xs ys : List Bytes) → IsSorted key_cmp (x ∷ xs) → SameSums (x ∷ xs) (y ∷ ys) → is_lt (key_cmp y x) ≡ false
not_below_first x y xs ys sorted same =
    is_none_below (is_lt (key_cmp y x)) (sum_by (below x) ys) (sym (sum_by-cons (below x) y ys) ∙ sym (same (below x)) ∙ first_is_least x xs sorted)

one_first : (x y : Bytes) (xs ys : List Bytes) → IsSorted key_cmp (x ∷ xs) → IsSorted key_cmp (y ∷ ys) → SameSums (x ∷ xs) (y ∷ ys) → x ≡ y
one_first x y xs ys one other same =
    let back : SameSums (y ∷ ys) (x ∷ xs) = λ f. sym (same f) in
    same_key x y (is_tie (key_cmp x y) (not_below_first y x ys xs other back) (not_above x y ∙ not_below_first x y xs ys one same))

other_sums : (x y : Bytes) (xs ys : List Bytes) → x ≡ y → SameSums (x ∷ xs) (y ∷ ys) → SameSums xs ys
other_sums x y xs ys is same f =
    let a = sum_by-cons f x xs in
    let b = sum_by-cons f y ys in
    let c = same f in
    let d : f x ≡ f y = ap f is in
    omega (arith, a, b, c, d)

sorted-same : (xs ys : List Bytes) → IsSorted key_cmp xs → IsSorted key_cmp ys → SameSums xs ys → xs ≡ ys
sorted-same [] [] one other same = refl
sorted-same [] (y ∷ ys) one other same = absurd (omega (arith, same (λ k. 1), sum_by-cons (λ (k : Bytes). 1) y ys))
sorted-same (x ∷ xs) [] one other same = absurd (omega (arith, same (λ k. 1), sum_by-cons (λ (k : Bytes). 1) x xs))
sorted-same (x ∷ xs) (y ∷ ys) one other same =
    let first : x ≡ y = one_first x y xs ys one other same in
    ap (λ (z : Bytes). z ∷ xs) first ∙ ap (λ (zs : List Bytes). y ∷ zs) (sorted-same xs ys (tail_sorted x xs one) (tail_sorted y ys other) (other_sums x y xs ys first same))

pub sorted-once : (all xs ys : List Bytes) → IsPermutation all xs → IsSorted key_cmp xs → IsPermutation all ys → IsSorted key_cmp ys → xs ≡ ys
sorted-once all xs ys p one q other =
    sorted-same xs ys one other (λ f. sum_by-IsPermutation f all xs p ∙ sym (sum_by-IsPermutation f all ys q))
