-- Pairs with a key each, once: those that are spelled read back, and those that are read are spelled so.
use Rattle.jc_text.proofs.Common.{◌≡◌, ◌∙◌, ℕ, ◌+◌, true, false, cond, List, [], ◌∷◌, ◌++◌, map, take, drop, Option, None, Some, Ok, Err, refl, sym, ap, append_assoc, append-nil, IfOk, map-append, All-nil, All-cons, All-head, All-tail, All-same, Bytes, RepeatedKey, IsPair, AreDistinctPairs, pair_text}
use Rattle.std.specs.List.{All, IsDistinct}
use Rattle.jc_text.specs.Words.{◌>>=◌, key_of, value_of, Pairs, equals_at, key_part, value_part, names_key, distinct_pair_onto, distinct_pairs_from, distinct_pairs_of}
use Rattle.jc_text.proofs.AreKeyWords.{same, fresh, one_more}
use Rattle.jc_text.proofs.Given.{ok_bind, ok_then, ok_since, ok_weaker}
use Rattle.jc_text.proofs.ReadWords.{SaysKey, key_read, SaysValue, value_read, SaysPair, pair_spelled}
use Rattle.jc_text.proofs.SpelledPairs.{parts_back}

abbrev pub keys : Pairs → List Bytes
keys pairs = map (λ pair. pair.0) pairs

keys_append : (before rest : Pairs) → keys (before ++ rest) ≡ keys before ++ keys rest
keys_append before rest = map-append (λ pair. pair.0) before rest

-- 1. Pairs that are spelled.

pair_taken : (before : Pairs) (pair : Bytes × Bytes) → IsPair pair → names_key before pair.0 ≡ false → distinct_pair_onto before (pair_text pair) ≡ Ok (before ++ (pair ∷ []))
unfolding distinct_pair_onto
pair_taken before pair known new =
    let parts = parts_back pair known in
    rw parts.0 (rw new (rw parts.1 refl))

pairs_onto : (before pairs : Pairs) → All IsPair pairs → IsDistinct same (keys (before ++ pairs)) → distinct_pairs_from before (map pair_text pairs) ≡ Ok (before ++ pairs)
pairs_onto before [] known d = ap Ok (sym (append-nil before))
pairs_onto before (pair ∷ pairs) known d =
    let shifted = append_assoc before (pair ∷ []) pairs in
    let split = rw (keys_append before (pair ∷ pairs)) at d in
    rw (pair_taken before pair (All-head IsPair pair pairs known) (fresh (keys before) (keys pairs) pair.0 split))
    (pairs_onto (before ++ (pair ∷ [])) pairs (All-tail IsPair pair pairs known) (rw shifted d) ∙ ap Ok shifted)

pub distinct_pairs_back : (pairs : Pairs) → AreDistinctPairs pairs → distinct_pairs_of (map pair_text pairs) ≡ Ok pairs
distinct_pairs_back pairs known = pairs_onto [] pairs known.1 known.2

-- 2. Pairs that are read.

abbrev TakesPair : Pairs → List ℕ → Pairs → Type 0
TakesPair before w more = SaysPair before w more × IsDistinct same (keys more)

pair_taken_read : (before : Pairs) (w : List ℕ) → IsDistinct same (keys before) → IfOk (distinct_pair_onto before w) (TakesPair before w)
unfolding distinct_pair_onto
pair_taken_read before w d = by (equals_at w) refl
  where
    P : Pairs → Type 0
    P = TakesPair before w

    distinct : (key value : Bytes) → names_key before key ≡ false → IsDistinct same (keys (before ++ ((key, value) ∷ [])))
    distinct key value new = rw (keys_append before ((key, value) ∷ [])) (one_more (keys before) key d new)

    by : (at : Option ℕ) → equals_at w ≡ at
        → IfOk (key_of (key_part at w) >>= λ key. cond (names_key before key) (Err RepeatedKey) (Ok true) >>= λ new. value_part at w >>= λ value. Ok (before ++ ((key, value) ∷ []))) P
    by None e = ok_bind (key_of w) _ P (λ key. ok_bind (cond (names_key before key) (Err RepeatedKey) (Ok true)) _ P (λ new. tt))
    by (Some at) e =
        ok_then (key_of (take at w)) _ (SaysKey (take at w)) P (key_read (take at w)) (λ key k.
        ok_then (cond (names_key before key) (Err RepeatedKey) (Ok true)) _ (λ b. names_key before key ≡ false) P
        (ok_since (names_key before key) (Ok true) RepeatedKey (λ b. names_key before key ≡ false) (λ new. new)) (λ b new.
        ok_then (value_of (drop (at + 1) w)) _ (SaysValue (drop (at + 1) w)) P (value_read (drop (at + 1) w)) (λ value v.
        (((key, value), (k.0, v.0), refl, pair_spelled w at key value e k v), distinct key value new))))

abbrev TakesPairs : Pairs → List (List ℕ) → Pairs → Type 0
TakesPairs before ws all = (pairs : Pairs) × All IsPair pairs × (all ≡ before ++ pairs) × (ws ≡ map pair_text pairs) × IsDistinct same (keys all)

pairs_onto_read : (before : Pairs) (ws : List (List ℕ)) → IsDistinct same (keys before) → IfOk (distinct_pairs_from before ws) (TakesPairs before ws)
pairs_onto_read before [] d = ([], All-nil IsPair, sym (append-nil before), refl, d)
pairs_onto_read before (w ∷ ws) d =
    ok_then (distinct_pair_onto before w) (λ more. distinct_pairs_from more ws) (TakesPair before w) (TakesPairs before (w ∷ ws)) (pair_taken_read before w d) (λ more t.
    let p = t.0 in
    ok_weaker (distinct_pairs_from more ws) (TakesPairs more ws) (TakesPairs before (w ∷ ws)) (λ all h.
    (p.0 ∷ h.0, All-cons IsPair p.0 h.0 p.1 h.1, h.2 ∙ ap (λ front. front ++ h.0) p.2 ∙ append_assoc before (p.0 ∷ []) h.0, rw (p.3, h.3) refl, h.4))
    (pairs_onto_read more ws t.1))

abbrev pub SaysDistinctPairs : List (List ℕ) → Pairs → Type 0
SaysDistinctPairs ws pairs = All IsPair pairs × (ws ≡ map pair_text pairs) × IsDistinct same (keys pairs)

pub distinct_pairs_read : (ws : List (List ℕ)) → IfOk (distinct_pairs_of ws) (SaysDistinctPairs ws)
unfolding IsDistinct
distinct_pairs_read ws =
    ok_weaker (distinct_pairs_of ws) (TakesPairs [] ws) (SaysDistinctPairs ws) (λ all h.
    (All-same IsPair all h.0 h.2 h.1, h.3 ∙ ap (λ pairs. map pair_text pairs) (sym h.2), h.4)) (pairs_onto_read [] ws tt)
