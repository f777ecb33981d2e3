-- The order of lists of bytes by words of 8 bytes, and that of buffers that are padded with zeros.
use native.Mathlib.Numerals.{unary_clauses}
use Rattle.std.proofs.Common.{◌≡◌, ℕ, suc, zero, ◌+◌, ◌*◌, ◌^◌, ◌<◌, ◌≤◌, List, [], ◌∷◌, ◌++◌, length, take, drop, replicate, get_or, refl, sym, ap, ◌∙◌, arith}
use Rattle.std.proofs.Common.{Ordering, Less, Equal, Greater}
use Rattle.std.specs.Ordering.{nat_cmp, ordering_then}
use Rattle.std.specs.Cmp.{nat_cmp_is}
use Rattle.std.specs.Cmp.Lexicographic.{slice_cmp}
use Rattle.std.specs.Int.{w64, from_be_bytes}
use Rattle.std.specs.List.{All}
use Rattle.std.proofs.lemmas.Cmp.{ranked, tied_itself, nat_cmp_total, nat_list_cmp_total}
use Rattle.std.proofs.lemmas.Grind.{common_steps}
use Rattle.std.proofs.lemmas.List.{length-append, length-replicate, length-drop, drop-drop}
use Rattle.std.proofs.lemmas.List.Elements.{All-head, All-tail, All-drop, All-from_get_or}

-- the first n bytes as one number, the first of them the most significant
abbrev weight : ℕ → List ℕ → ℕ
weight zero xs = 0
weight (suc n) [] = 0
weight (suc n) (x ∷ xs) = x * 256 ^ n + weight n xs

less_before : (x y a b w : ℕ) → x < y → a < w → x * w + a < y * w + b
less_before x y a b w lt h =
    let row : suc x * w ≤ y * w = grind (arith, common_steps) in
    grind (arith, common_steps)

power : (n : ℕ) → 256 * 256 ^ n + 0 ≡ 256 ^ suc n
power n = simp unary_clauses (omega arith)

weight_below : (n : ℕ) (xs : List ℕ) → All (λ b. b < 256) xs → weight n xs < 256 ^ n
weight_below zero xs all = omega arith
weight_below (suc n) [] all = omega (arith, power n, weight_below n [] all)
weight_below (suc n) (x ∷ xs) all =
    let here : x < 256 = All-head (λ b. b < 256) x xs all in
    let ih = weight_below n xs (All-tail (λ b. b < 256) x xs all) in
    omega (arith, power n, less_before x 256 (weight n xs) 0 (256 ^ n) here ih)

then_assoc : (a b c : Ordering) → ordering_then a (ordering_then b c) ≡ ordering_then (ordering_then a b) c
then_assoc Less b c = refl
then_assoc Equal b c = refl
then_assoc Greater b c = refl

digit_order : (x y a b w : ℕ) → a < w → b < w → ordering_then (nat_cmp x y) (nat_cmp a b) ≡ nat_cmp (x * w + a) (y * w + b)
digit_order x y a b w ha hb =
    elim (nat_cmp x y) as (λ o. o ≡ nat_cmp x y → ordering_then o (nat_cmp a b) ≡ nat_cmp (x * w + a) (y * w + b)) [
      | Less ↦ λ is. nat_cmp_is (x * w + a) (y * w + b) Less (less_before x y a b w (ranked x y Less is) ha)
      | Equal ↦ λ is.
          let same : x ≡ y = ranked x y Equal is in
          elim (nat_cmp a b) as (λ o. o ≡ nat_cmp a b → o ≡ nat_cmp (x * w + a) (y * w + b)) [
            | Less ↦ λ low. nat_cmp_is (x * w + a) (y * w + b) Less (let lt = ranked a b Less low in grind arith)
            | Equal ↦ λ low. nat_cmp_is (x * w + a) (y * w + b) Equal (let eq = ranked a b Equal low in grind arith)
            | Greater ↦ λ low. nat_cmp_is (x * w + a) (y * w + b) Greater (let gt = ranked a b Greater low in grind arith)
          ] refl
      | Greater ↦ λ is. nat_cmp_is (x * w + a) (y * w + b) Greater (less_before y x b a w (ranked x y Greater is) hb)
    ] refl

-- lists order by their first n bytes as numbers, and then by the others
front_order : (n : ℕ) (xs ys : List ℕ) → n ≤ length xs → n ≤ length ys → All (λ b. b < 256) xs → All (λ b. b < 256) ys
    → slice_cmp nat_cmp xs ys ≡ ordering_then (nat_cmp (weight n xs) (weight n ys)) (slice_cmp nat_cmp (drop n xs) (drop n ys))
front_order zero xs ys hx hy ax ay = refl
front_order (suc n) [] ys hx hy ax ay = absurd (omega arith)
front_order (suc n) (x ∷ xs) [] hx hy ax ay = absurd (omega arith)
front_order (suc n) (x ∷ xs) (y ∷ ys) hx hy ax ay =
    let tx = All-tail (λ b. b < 256) x xs ax in
    let ty = All-tail (λ b. b < 256) y ys ay in
    ap (λ o. ordering_then (nat_cmp x y) o) (front_order n xs ys (omega arith) (omega arith) tx ty)
    ∙ then_assoc (nat_cmp x y) (nat_cmp (weight n xs) (weight n ys)) (slice_cmp nat_cmp (drop n xs) (drop n ys))
    ∙ ap (λ o. ordering_then o (slice_cmp nat_cmp (drop n xs) (drop n ys))) (digit_order x y (weight n xs) (weight n ys) (256 ^ n) (weight_below n xs tx) (weight_below n ys ty))

-- a word is the number of its 8 bytes
word_weight : (xs : List ℕ) → 8 ≤ length xs → from_be_bytes w64 (take 8 xs) ≡ weight 8 xs
word_weight (a ∷ b ∷ c ∷ d ∷ e ∷ f ∷ g ∷ h ∷ xs) long = omega arith
word_weight _ long = absurd (omega arith)

-- lists order by their first word, and then by the others
pub word_order : (xs ys : List ℕ) → 8 ≤ length xs → 8 ≤ length ys → All (λ b. b < 256) xs → All (λ b. b < 256) ys
    → slice_cmp nat_cmp xs ys ≡ ordering_then (nat_cmp (from_be_bytes w64 (take 8 xs)) (from_be_bytes w64 (take 8 ys))) (slice_cmp nat_cmp (drop 8 xs) (drop 8 ys))
word_order xs ys hx hy ax ay =
    front_order 8 xs ys hx hy ax ay
    ∙ ap (λ n. ordering_then (nat_cmp n (weight 8 ys)) (slice_cmp nat_cmp (drop 8 xs) (drop 8 ys))) (sym (word_weight xs hx))
    ∙ ap (λ n. ordering_then (nat_cmp (from_be_bytes w64 (take 8 xs)) n) (slice_cmp nat_cmp (drop 8 xs) (drop 8 ys))) (sym (word_weight ys hy))

-- at a place
module _ (xs ys : List ℕ) (at : ℕ) (in_xs : at + 8 ≤ length xs) (in_ys : at + 8 ≤ length ys)
    (fits_xs : (i : ℕ) → get_or xs i 0 < 256) (fits_ys : (i : ℕ) → get_or ys i 0 < 256) where
  abbrev word : List ℕ → ℕ
  word zs = from_be_bytes w64 (take 8 (drop at zs))

  abbrev rest : Ordering
  rest = slice_cmp nat_cmp (drop (at + 8) xs) (drop (at + 8) ys)

  at_place : slice_cmp nat_cmp (drop at xs) (drop at ys) ≡ ordering_then (nat_cmp (word xs) (word ys)) rest
  at_place =
      word_order (drop at xs) (drop at ys) (omega (arith, length-drop at xs)) (omega (arith, length-drop at ys))
      (All-drop (λ b. b < 256) at xs (All-from_get_or (λ b. b < 256) xs 0 (λ i _. fits_xs i)))
      (All-drop (λ b. b < 256) at ys (All-from_get_or (λ b. b < 256) ys 0 (λ i _. fits_ys i)))
      ∙ ap (λ zs. ordering_then (nat_cmp (word xs) (word ys)) (slice_cmp nat_cmp zs (drop 8 (drop at ys)))) (drop-drop 8 at xs)
      ∙ ap (λ zs. ordering_then (nat_cmp (word xs) (word ys)) (slice_cmp nat_cmp (drop (at + 8) xs) zs)) (drop-drop 8 at ys)

  -- where the words are equal, what follows decides
  pub past_word : word xs ≡ word ys → slice_cmp nat_cmp (drop at xs) (drop at ys) ≡ slice_cmp nat_cmp (drop (at + 8) xs) (drop (at + 8) ys)
  past_word same =
      at_place
      ∙ ap (λ n. ordering_then (nat_cmp n (word ys)) rest) same
      ∙ ap (λ o. ordering_then o rest) (tied_itself nat_cmp_total (word ys))

  -- where they are not, they decide
  pub at_word : (word xs ≡ word ys → ⊥) → slice_cmp nat_cmp (drop at xs) (drop at ys) ≡ nat_cmp (word xs) (word ys)
  at_word apart =
      at_place
      ∙ elim (nat_cmp (word xs) (word ys)) as (λ o. o ≡ nat_cmp (word xs) (word ys) → ordering_then o rest ≡ o) [
        | Less ↦ λ is. refl
        | Equal ↦ λ is. absurd (apart (ranked (word xs) (word ys) Equal is))
        | Greater ↦ λ is. refl
      ] refl

-- zeros are no more than a list of the same length
zeros_first : (m : ℕ) (ys : List ℕ) → m ≡ length ys → ordering_then (slice_cmp nat_cmp (replicate m 0) ys) Less ≡ Less
zeros_first zero [] h = refl
zeros_first zero (y ∷ ys) h = absurd (omega arith)
zeros_first (suc m) [] h = absurd (omega arith)
zeros_first (suc m) (zero ∷ ys) h = zeros_first m ys (omega arith)
zeros_first (suc m) (suc y ∷ ys) h = rw (sym (nat_cmp_is 0 (suc y) Less (omega arith))) refl

-- and a list is no less than zeros of the same length
zeros_last : (m : ℕ) (xs : List ℕ) → m ≡ length xs → ordering_then (slice_cmp nat_cmp xs (replicate m 0)) Greater ≡ Greater
zeros_last zero [] h = refl
zeros_last zero (x ∷ xs) h = absurd (omega arith)
zeros_last (suc m) [] h = absurd (omega arith)
zeros_last (suc m) (zero ∷ xs) h = zeros_last m xs (omega arith)
zeros_last (suc m) (suc x ∷ xs) h = rw (sym (nat_cmp_is (suc x) 0 Greater (omega arith))) refl

cmp_suc : (x y : ℕ) → nat_cmp (suc x) (suc y) ≡ nat_cmp x y
cmp_suc x y =
    elim (nat_cmp x y) as (λ o. o ≡ nat_cmp x y → nat_cmp (suc x) (suc y) ≡ o) [
      | Less ↦ λ is. sym (nat_cmp_is (suc x) (suc y) Less (let lt = ranked x y Less is in omega arith))
      | Equal ↦ λ is. sym (nat_cmp_is (suc x) (suc y) Equal (let eq = ranked x y Equal is in omega arith))
      | Greater ↦ λ is. sym (nat_cmp_is (suc x) (suc y) Greater (let gt = ranked x y Greater is in omega arith))
    ] refl

-- lists of bytes order as their padded buffers do, and then by length
pub padded_order : (xs ys : List ℕ) (m n : ℕ) → length xs + m ≡ length ys + n
    → ordering_then (slice_cmp nat_cmp (xs ++ replicate m 0) (ys ++ replicate n 0)) (nat_cmp (length xs) (length ys)) ≡ slice_cmp nat_cmp xs ys
padded_order [] [] m n h =
    let same : m ≡ n = omega arith in
    rw same (rw (tied_itself nat_list_cmp_total (replicate n 0)) refl)
padded_order [] (y ∷ ys) m n h =
    rw (sym (nat_cmp_is 0 (suc (length ys)) Less (omega arith)))
    (zeros_first m (y ∷ ys ++ replicate n 0) (omega (arith, length-append ys (replicate n 0), length-replicate {A = ℕ} n 0)))
padded_order (x ∷ xs) [] m n h =
    rw (sym (nat_cmp_is (suc (length xs)) 0 Greater (omega arith)))
    (zeros_last n (x ∷ xs ++ replicate m 0) (omega (arith, length-append xs (replicate m 0), length-replicate {A = ℕ} m 0)))
padded_order (x ∷ xs) (y ∷ ys) m n h =
    sym (then_assoc (nat_cmp x y) (slice_cmp nat_cmp (xs ++ replicate m 0) (ys ++ replicate n 0)) (nat_cmp (suc (length xs)) (suc (length ys))))
    ∙ ap (λ o. ordering_then (nat_cmp x y) (ordering_then (slice_cmp nat_cmp (xs ++ replicate m 0) (ys ++ replicate n 0)) o)) (cmp_suc (length xs) (length ys))
    ∙ ap (λ o. ordering_then (nat_cmp x y) o) (padded_order xs ys m n (omega arith))
