-- The keys of a piece, one after another.
--     distinct_drop    keys that differ, without the first of them
--     distinct_piece, few_keys  those of a piece differ, and are few
--     place_left       a place behind so many keys
--     next_key         the key of a place, among those of a piece
--     fresh_key        it isn't among those before it
--     one_more         a piece's keys, with the key of the next place
--     whole_piece      a piece's keys, once all places are come to
use Rattle.jc_loadall.proofs.Common.{◌≡◌, ◌==◌, ◌<◌, ◌≤◌, ◌+◌, ◌-◌, ◌*◌, ◌++◌, ⊎_elim, ℕ, zero, suc, List, [], ◌∷◌, length, take, drop, get_or, min, false, refl, sym, ap, ◌∙◌, arith, length-drop, cases_lt, get_or-drop, length-take, take_more, IsDistinct-cons, IsDistinct-head, IsDistinct-tail, take-length, AllByRecursion, IsDistinct, pointwise, new_at, is_among, Bytes, PIECE_KEYS, piece_at}

pub distinct_drop : (n : ℕ) (keys : List Bytes) → IsDistinct (pointwise ◌==◌) keys → IsDistinct (pointwise ◌==◌) (drop n keys)
distinct_drop zero keys d = d
distinct_drop (suc n) [] d = d
distinct_drop (suc n) (k ∷ keys) d = distinct_drop n keys (IsDistinct-tail (pointwise ◌==◌) k keys d)

all_take : (P : Bytes → Type 0) (n : ℕ) (keys : List Bytes) → AllByRecursion P keys → AllByRecursion P (take n keys)
all_take P zero [] all = tt
all_take P zero (k ∷ keys) all = tt
all_take P (suc n) [] all = tt
all_take P (suc n) (k ∷ keys) all = (all.0, all_take P n keys all.1)

distinct_take : (n : ℕ) (keys : List Bytes) → IsDistinct (pointwise ◌==◌) keys → IsDistinct (pointwise ◌==◌) (take n keys)
distinct_take zero [] d = d
distinct_take zero (k ∷ keys) d = distinct_take zero keys (IsDistinct-tail (pointwise ◌==◌) k keys d)
distinct_take (suc n) [] d = d
distinct_take (suc n) (k ∷ keys) d =
    IsDistinct-cons (pointwise ◌==◌) k (take n keys) (all_take (λ y. pointwise ◌==◌ k y ≡ false) n keys (IsDistinct-head (pointwise ◌==◌) k keys d))
    (distinct_take n keys (IsDistinct-tail (pointwise ◌==◌) k keys d))

pub distinct_piece : (keys : List Bytes) (piece : ℕ) → IsDistinct (pointwise ◌==◌) keys → IsDistinct (pointwise ◌==◌) (piece_at keys piece)
distinct_piece keys piece d = distinct_take PIECE_KEYS (drop (PIECE_KEYS * piece) keys) (distinct_drop (PIECE_KEYS * piece) keys d)

pub few_keys : (keys : List Bytes) (piece : ℕ) → length (piece_at keys piece) ≤ PIECE_KEYS
few_keys keys piece = let len = length-take PIECE_KEYS (drop (PIECE_KEYS * piece) keys) in omega arith

module _ (keys : List Bytes) (from place : ℕ) (key : Bytes) (after : from ≤ place) (near : place < length keys) (is : key ≡ get_or keys place key) where
  place_left : place - from < length (drop from keys)
  place_left = let len = length-drop from keys in omega arith

  next_key : key ≡ get_or (drop from keys) (place - from) key
  next_key = let same : from + (place - from) ≡ place = omega arith in is ∙ ap (λ i. get_or keys i key) (sym same) ∙ sym (get_or-drop from keys (place - from) key)

  pub fresh_key : IsDistinct (pointwise ◌==◌) keys → is_among (take (place - from) (drop from keys)) key ≡ false
  fresh_key d = new_at (drop from keys) (place - from) key (distinct_drop from keys d) place_left next_key

  pub one_more : take (place + 1 - from) (drop from keys) ≡ take (place - from) (drop from keys) ++ key ∷ []
  one_more =
      let next : place + 1 - from ≡ place - from + 1 = omega arith in
      ap (λ n. take n (drop from keys)) next ∙ take_more (drop from keys) (place - from) key place_left
      ∙ ap (λ k. take (place - from) (drop from keys) ++ k ∷ []) (sym next_key)

take_long : (xs : List Bytes) (n : ℕ) → length xs ≤ n → take n xs ≡ xs
take_long [] zero le = refl
take_long [] (suc n) le = refl
take_long (x ∷ xs) zero le = absurd (omega arith)
take_long (x ∷ xs) (suc n) le = ap (λ l. x ∷ l) (take_long xs n (omega arith))

pub whole_piece : (keys : List Bytes) (piece place : ℕ) → place ≡ min (length keys) (PIECE_KEYS * piece + PIECE_KEYS) → PIECE_KEYS * piece ≤ length keys
    → take (place - PIECE_KEYS * piece) (drop (PIECE_KEYS * piece) keys) ≡ piece_at keys piece
whole_piece keys piece place is there =
    let len = length-drop (PIECE_KEYS * piece) keys in
    ⊎_elim
    (λ (lt : length keys < PIECE_KEYS * piece + PIECE_KEYS).
    let rest : place - PIECE_KEYS * piece ≡ length (drop (PIECE_KEYS * piece) keys) = omega arith in
    let few : length (drop (PIECE_KEYS * piece) keys) ≤ PIECE_KEYS = omega arith in
    ap (λ n. take n (drop (PIECE_KEYS * piece) keys)) rest ∙ take-length (drop (PIECE_KEYS * piece) keys) ∙ sym (take_long (drop (PIECE_KEYS * piece) keys) PIECE_KEYS few))
    (λ (ge : PIECE_KEYS * piece + PIECE_KEYS ≤ length keys).
    let all : place - PIECE_KEYS * piece ≡ PIECE_KEYS = omega arith in ap (λ n. take n (drop (PIECE_KEYS * piece) keys)) all)
    (cases_lt (length keys) (PIECE_KEYS * piece + PIECE_KEYS))
