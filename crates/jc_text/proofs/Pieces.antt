-- A script's pieces, from its first line feed on.
use Rattle.jc_text.proofs.Common.{◌≡◌, ◌==◌, ℕ, ◌+◌, ◌<◌, ◌≤◌, Bool, true, false, cond, not, ltb, List, [], ◌∷◌, ◌++◌, length, take, drop, Option, None, Some, refl, sym, ap, ◌∙◌, arith, append_assoc, get_or, ltb-true, ltb-false, le-ltb, lt-ltb, slice_split_first, position_or_len_is, onto_first, position, position_or_len, pieces_of, Appends}
use Rattle.std.proofs.lemmas.Option.{cond_some}
use Rattle.memchr.specs.Find.{IsFirstByte}

-- a test that isn't passed fails
fails : (b : Bool) → ¬ (b ≡ true) → b ≡ false
fails true h = absurd (h refl)
fails false h = refl

inside : (b : Bool) (k : ℕ) → b ≡ true → Some k ≡ cond b (Some k) None
inside b k e = rw e refl

outside : (b : Bool) (k : ℕ) → b ≡ false → cond b (Some k) None ≡ None
outside b k e = rw e refl

abbrev is_feed : ℕ → Bool
is_feed b = b == 10

-- the first index of a byte is the position of it
pub first_is_position : (test : ℕ → Bool) (bs : List ℕ) (r : Option ℕ) → IsFirstByte test bs r → r ≡ position test bs
first_is_position test bs None nowhere =
    let at_end = position_or_len_is test bs (length bs) 0 (omega arith) (λ k lt. fails (test (get_or bs k 0)) (nowhere k (omega arith) lt)) (λ lt. absurd (omega (arith, lt))) in
    rw at_end (sym (outside (ltb (length bs) (length bs)) (length bs) (le-ltb _ _ (omega arith))))
first_is_position test bs (Some k) first =
    let at_k = position_or_len_is test bs k 0 (omega (arith, first.0.high)) (λ j lt. fails (test (get_or bs j 0)) (first.0.before j (omega arith) lt)) (λ lt. first.1) in
    rw at_k (inside (ltb k (length bs)) k (lt-ltb k (length bs) first.0.high))

pub cut_at : (bs : List ℕ) (i : ℕ) → position is_feed bs ≡ Some i → pieces_of bs ≡ take i bs ∷ pieces_of (drop (i + 1) bs)
cut_at bs i e =
    let p = cond_some (ltb (position_or_len is_feed bs) (length bs)) (position_or_len is_feed bs) i e in
    rw (← p.1) (slice_split_first is_feed bs 0 (ltb-true (position_or_len is_feed bs) (length bs) p.0))

pub within : (bs : List ℕ) (i : ℕ) → position is_feed bs ≡ Some i → i < length bs
within bs i e =
    let p = cond_some (ltb (position_or_len is_feed bs) (length bs)) (position_or_len is_feed bs) i e in
    rw (← p.1) (ltb-true (position_or_len is_feed bs) (length bs) p.0)

cond_none : {A : Type 0} (b : Bool) (x : A) → cond b (Some x) None ≡ None → b ≡ false
cond_none true x e = absurd cc
cond_none false x e = refl

not_feed : (t : Bool) (b : ℕ) (bs : List ℕ) → (ltb (position_or_len is_feed bs) (length bs) ≡ false → pieces_of bs ≡ bs ∷ [])
    → ltb (cond (not t) (1 + position_or_len is_feed bs) 0) (length (b ∷ bs)) ≡ false → cond t ([] ∷ pieces_of bs) (onto_first b (pieces_of bs)) ≡ (b ∷ bs) ∷ []
not_feed true b bs ih e = absurd (omega (arith, ltb-false 0 (length (b ∷ bs)) e))
not_feed false b bs ih e =
    let le : length bs ≤ position_or_len is_feed bs = omega (arith, ltb-false (1 + position_or_len is_feed bs) (length (b ∷ bs)) e) in
    rw (ih (le-ltb _ _ le)) refl

no_feed : (bs : List ℕ) → ltb (position_or_len is_feed bs) (length bs) ≡ false → pieces_of bs ≡ bs ∷ []
no_feed [] e = refl
no_feed (b ∷ bs) e = not_feed (is_feed b) b bs (no_feed bs) e

pub uncut : (bs : List ℕ) → position is_feed bs ≡ None → pieces_of bs ≡ bs ∷ []
uncut bs e = no_feed bs (cond_none _ _ e)

-- ---- there is always a piece

first_of : (t : Bool) (x : ℕ) (parts : List (List ℕ)) → (p : List ℕ) × (ps : List (List ℕ)) × (cond t ([] ∷ parts) (onto_first x parts) ≡ p ∷ ps)
first_of true x parts = ([], parts, refl)
first_of false x [] = (x ∷ [], [], refl)
first_of false x (q ∷ qs) = (x ∷ q, qs, refl)

pub pieces_some : (bs : List ℕ) → (p : List ℕ) × (ps : List (List ℕ)) × (pieces_of bs ≡ p ∷ ps)
pieces_some [] = ([], [], refl)
pieces_some (b ∷ bs) = first_of (is_feed b) b (pieces_of bs)

-- ---- writes

pub appends-then : (a b c : Option (List ℕ)) (xs ys : List ℕ) → Appends a b xs → Appends b c ys → Appends a c (xs ++ ys)
appends-then None b c xs ys p q = tt
appends-then (Some a) None c xs ys p q = absurd p
appends-then (Some a) (Some b) None xs ys p q = absurd q
appends-then (Some a) (Some b) (Some c) xs ys p q = q ∙ ap (λ (t : List ℕ). t ++ ys) p ∙ append_assoc a xs ys
