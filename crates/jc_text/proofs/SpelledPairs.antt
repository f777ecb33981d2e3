-- Pairs that are spelled are read as what they say.
use Rattle.jc_text.proofs.Common.{◌≡◌, ◌∙◌, ◌==◌, ℕ, ◌+◌, true, false, not, List, [], ◌∷◌, ◌++◌, length, map, drop, None, Some, Ok, refl, sym, ap, append_assoc, append-nil, arith, ◌&&◌, nat_lt, nat_le, All, list_all, position_or_len, and_from, and_parts, cond-true, not_from_false, common_steps, take_at, drop-append-add, All-head, All-tail, KEY_MAX, Bytes, value_text, IsKey, IsPair, pair_text}
use Rattle.jc_text.specs.Words.{is_letter, key_of, Pairs, equals_at, key_part, value_part, pair_onto, pairs_from, pairs_of}
use Rattle.jc_text.proofs.AreKeyWords.{key_back}
use Rattle.jc_text.proofs.Spelling.{value_back}
use Rattle.jc_text.proofs.SpelledWords.{AreWords, pair_word, pair_parts}

no_equals : (b : ℕ) → is_letter b ≡ true → (b == 61) ≡ false
no_equals b e = grind (arith, common_steps)

-- the first equals sign is the one after the key
sign_after : (key rest : List ℕ) → list_all is_letter key ≡ true → position_or_len (λ b. b == 61) (key ++ (61 ∷ rest)) ≡ length key
sign_after [] rest e = refl
sign_after (b ∷ bs) rest e =
    let both = and_parts (is_letter b) (list_all is_letter bs) e in
    cond-true (not (b == 61)) _ 0 (not_from_false _ (no_equals b both.0)) ∙ ap (λ n. 1 + n) (sign_after bs rest both.1) ∙ omega arith

sign_at : (key rest : List ℕ) → IsKey key → equals_at (key ++ (61 ∷ rest)) ≡ Some (length key)
sign_at key rest known =
    let letters = and_parts (nat_lt 0 (length key) && nat_le (length key) KEY_MAX) (list_all is_letter key) known in
    rw (sign_after key rest letters.1) (cond-true _ (Some (length key)) None (within key rest))
  where
    within : (key rest : List ℕ) → nat_lt (length key) (length (key ++ (61 ∷ rest))) ≡ true
    within key rest = grind (arith, common_steps)

behind : (key rest : List ℕ) → drop (length key + 1) (key ++ (61 ∷ rest)) ≡ rest
behind key rest = drop-append-add key (61 ∷ rest) 1

-- its key is what is before that sign, and its value what follows it
abbrev pub HasParts : List ℕ → Bytes × Bytes → Type 0
HasParts word pair = (key_of (key_part (equals_at word) word) ≡ Ok pair.0) × (value_part (equals_at word) word ≡ Ok pair.1)

pub parts_back : (pair : Bytes × Bytes) → IsPair pair → HasParts (pair_text pair) pair
parts_back pair known =
    let value = value_text pair.1 in
    rw (pair_parts pair) (rw (sign_at pair.0 value known.0) (rw (take_at pair.0 (61 ∷ value) (length pair.0) refl) (key_back pair.0 known.0, rw (behind pair.0 value) (value_back pair.1 known.1))))

pair_back : (pairs : Pairs) (pair : Bytes × Bytes) → IsPair pair → pair_onto pairs (pair_text pair) ≡ Ok (pairs ++ (pair ∷ []))
unfolding pair_onto
pair_back pairs pair known =
    let parts = parts_back pair known in
    rw parts.0 (rw parts.1 refl)

pairs_onto : (before pairs : Pairs) → All IsPair pairs → pairs_from before (map pair_text pairs) ≡ Ok (before ++ pairs)
pairs_onto before [] known = ap Ok (sym (append-nil before))
pairs_onto before (pair ∷ pairs) known =
    rw (pair_back before pair (All-head IsPair pair pairs known)) (pairs_onto (before ++ (pair ∷ [])) pairs (All-tail IsPair pair pairs known) ∙ ap Ok (append_assoc before (pair ∷ []) pairs))

pub pairs_back : (pairs : Pairs) → All IsPair pairs → pairs_of (map pair_text pairs) ≡ Ok pairs
pairs_back pairs known = pairs_onto [] pairs known

pub pairs_are_words : (pairs : Pairs) → All IsPair pairs → AreWords (map pair_text pairs)
pairs_are_words [] known = refl
pairs_are_words (pair ∷ pairs) known = and_from _ _ (pair_word pair (All-head IsPair pair pairs known)) (pairs_are_words pairs (All-tail IsPair pair pairs known))
