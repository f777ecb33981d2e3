-- Keys, each once: those that are spelled read back, and those that are read are spelled so.
use Rattle.jc_text.proofs.Common.{◌≡◌, ◌∙◌, ◌==◌, ◌||◌, ℕ, Bool, false, List, [], ◌∷◌, ◌++◌, Ok, Err, refl, sym, ap, append_assoc, IfOk, pointwise, and_from, cond-true, or_parts, nat_list_eq_equiv, All-nil, All-cons, All-head, All-tail, KEY_MAX, Bytes, is_among, BadKey, RepeatedKey, IsKey, AreKeyWords}
use Rattle.std.specs.List.{All, AllByRecursion, IsDistinct, list_any}
use Rattle.std.proofs.lemmas.List.{append-nil}
use Rattle.jc_text.specs.Words.{is_text, key_of, key_onto, keys_from, distinct_keys_of}
use Rattle.jc_text.proofs.Given.{ok_then, ok_since, ok_weaker}
use Rattle.jc_text.proofs.ReadWords.{SaysKey, key_read}
use Rattle.jc_text.proofs.SpelledWords.{AreWords, text_word}

abbrev pub same : Bytes → Bytes → Bool
same = pointwise ◌==◌

-- 1. A key that is not among others.

apart : (before rest : List Bytes) (key b : Bytes) → AllByRecursion (λ y. same b y ≡ false) (before ++ (key ∷ rest)) → same b key ≡ false
apart [] rest key b all = all.0
apart (x ∷ before) rest key b all = apart before rest key b all.1

-- of keys that differ, none is among those before it
pub fresh : (before rest : List Bytes) (key : Bytes) → IsDistinct same (before ++ (key ∷ rest)) → is_among before key ≡ false
unfolding IsDistinct
fresh [] rest key d = refl
fresh (b ∷ before) rest key d =
    ap (λ t. t || list_any (same key) before) (nat_list_eq_equiv.symm key b ∙ apart before rest key b d.0) ∙ fresh before rest key d.1

at_end : (P : Bytes → Type 0) (before : List Bytes) (key : Bytes) → AllByRecursion P before → P key → AllByRecursion P (before ++ (key ∷ []))
at_end P [] key all p = (p, tt)
at_end P (b ∷ before) key all p = (all.0, at_end P before key all.1 p)

-- and with one that is not among them they differ still
pub one_more : (before : List Bytes) (key : Bytes) → IsDistinct same before → is_among before key ≡ false → IsDistinct same (before ++ (key ∷ []))
unfolding IsDistinct
one_more [] key d e = (tt, tt)
one_more (b ∷ before) key d e =
    let both = or_parts (same key b) (list_any (same key) before) e in
    (at_end (λ y. same b y ≡ false) before key d.0 (nat_list_eq_equiv.symm b key ∙ both.0), one_more before key d.1 both.1)

-- 2. Keys that are spelled.

pub key_back : (key : Bytes) → IsKey key → key_of key ≡ Ok key
key_back key known = cond-true (is_text KEY_MAX key) (Ok key) (Err BadKey) known

key_taken : (before : List Bytes) (key : Bytes) → IsKey key → is_among before key ≡ false → key_onto before key ≡ Ok (before ++ (key ∷ []))
unfolding key_onto
key_taken before key known new = rw (key_back key known) (rw new refl)

keys_onto : (before keys : List Bytes) → All IsKey keys → IsDistinct same (before ++ keys) → keys_from before keys ≡ Ok (before ++ keys)
keys_onto before [] known d = ap Ok (sym (append-nil before))
keys_onto before (key ∷ keys) known d =
    let shifted = append_assoc before (key ∷ []) keys in
    rw (key_taken before key (All-head IsKey key keys known) (fresh before keys key d))
    (keys_onto (before ++ (key ∷ [])) keys (All-tail IsKey key keys known) (rw shifted d) ∙ ap Ok shifted)

pub keys_back : (least : ℕ) (keys : List Bytes) → AreKeyWords least keys → distinct_keys_of keys ≡ Ok keys
keys_back least keys known = keys_onto [] keys known.1 known.2

pub keys_are_words : (keys : List Bytes) → All IsKey keys → AreWords keys
keys_are_words [] known = refl
keys_are_words (key ∷ keys) known = and_from _ _ (text_word _ key (All-head IsKey key keys known)) (keys_are_words keys (All-tail IsKey key keys known))

-- 3. Keys that are read.

abbrev TakesKey : List Bytes → List ℕ → List Bytes → Type 0
TakesKey before w more = IsKey w × (more ≡ before ++ (w ∷ [])) × IsDistinct same more

key_taken_read : (before : List Bytes) (w : List ℕ) → IsDistinct same before → IfOk (key_onto before w) (TakesKey before w)
unfolding key_onto
key_taken_read before w d =
    ok_then (key_of w) _ (SaysKey w) (TakesKey before w) (key_read w) (λ key k.
    ok_since (is_among before key) (Ok (before ++ (key ∷ []))) RepeatedKey (TakesKey before w) (λ new. rw k.1 (k.0, refl, one_more before key d new)))

abbrev TakesKeys : List Bytes → List (List ℕ) → List Bytes → Type 0
TakesKeys before ws all = All IsKey ws × (all ≡ before ++ ws) × IsDistinct same all

keys_onto_read : (before : List Bytes) (ws : List (List ℕ)) → IsDistinct same before → IfOk (keys_from before ws) (TakesKeys before ws)
keys_onto_read before [] d = (All-nil IsKey, sym (append-nil before), d)
keys_onto_read before (w ∷ ws) d =
    ok_then (key_onto before w) (λ more. keys_from more ws) (TakesKey before w) (TakesKeys before (w ∷ ws)) (key_taken_read before w d) (λ more p.
    ok_weaker (keys_from more ws) (TakesKeys more ws) (TakesKeys before (w ∷ ws)) (λ all h.
    (All-cons IsKey w ws p.0 h.0, h.1 ∙ ap (λ front. front ++ ws) p.1 ∙ append_assoc before (w ∷ []) ws, h.2))
    (keys_onto_read more ws p.2))

abbrev pub SaysKeys : List (List ℕ) → List Bytes → Type 0
SaysKeys ws keys = All IsKey keys × (ws ≡ keys) × IsDistinct same keys

pub keys_read : (ws : List (List ℕ)) → IfOk (distinct_keys_of ws) (SaysKeys ws)
unfolding IsDistinct
keys_read ws = ok_weaker (distinct_keys_of ws) (TakesKeys [] ws) (SaysKeys ws) (λ keys h. (rw h.1 h.0, sym h.1, h.2)) (keys_onto_read [] ws tt)
