-- Facts on entries in order of use, for the proofs of this crate and of those above it.
use Rattle.std.proofs.Common.{◌≡◌, ◌<◌, ◌≤◌, List, [], ◌∷◌, Bool, true, false, cond, not, ◌||◌, length, reverse, find, Option, Some, None, is_some, ap, refl, sym, ◌∙◌, arith, ◌==◌}
use Rattle.std.specs.List.{list_any}
use Rattle.std.specs.Map.{keys_of}
use Rattle.std.specs.Ordering.{eq_by_cmp}
use Rattle.std.specs.Cmp.{eq_by_cmp_equiv}
use Rattle.std.specs.Cmp.Lexicographic.{texts_ties, pointwise}
use Rattle.std.specs.FinMap as finite
use Rattle.std.specs.FinMap.Entries.{is_some-find}
use Rattle.std.proofs.lemmas.Cmp.{nat_list_cmp_total}
use Rattle.std.proofs.lemmas.Bool.{not-true, or_left, or_right}
use Rattle.std.proofs.lemmas.List.Sorted.{list_any-IsPermutation, IsPermutation-map, IsPermutation-reverse}
use Rattle.jc_types.proofs.CallerLemmas.{found_test}
use Rattle.jc_model.specs.Cache.{Bytes, key_cmp}
use Rattle.jc_model.specs.Listed.{others}
use Rattle.jc_entries.specs.ByUse.{is_pinned, lru_victim}

-- 1. The entries of the other keys.

fewer : (b : Bool) (e : Bytes × Bytes) (es rest : List (Bytes × Bytes)) → length rest ≤ length es → length (cond b (e ∷ rest) rest) ≤ length (e ∷ es)
fewer true e es rest h = omega arith
fewer false e es rest h = omega arith

-- no more entries than there were
pub length-others : (key : Bytes) (entries : List (Bytes × Bytes)) → length (others key entries) ≤ length entries
length-others key [] = omega arith
length-others key (e ∷ es) = fewer (not (pointwise ◌==◌ key e.0)) e es _ (length-others key es)

less : (b t : Bool) (e : Bytes × Bytes) (es rest : List (Bytes × Bytes)) (o : Option Bytes) → b ≡ t → is_some (cond t (Some e.1) o) ≡ true
    → length rest ≤ length es → (is_some o ≡ true → length rest < length es) → length (cond (not b) (e ∷ rest) rest) < length (e ∷ es)
less true t e es rest o is found few h = omega arith
less false true e es rest o is found few h = cc
less false false e es rest o is found few h = let fewer : length rest < length es = h found in omega arith

-- at least one fewer if the key had an entry
pub length-others_found : (key : Bytes) (entries : List (Bytes × Bytes)) → is_some (finite.find key_cmp key entries) ≡ true → length (others key entries) < length entries
length-others_found key [] h = cc
length-others_found key (e ∷ es) h =
    less (pointwise ◌==◌ key e.0) (eq_by_cmp key_cmp key e.0) e es (others key es) (finite.find key_cmp key es) (texts_ties key e.0) h (length-others key es) (length-others_found key es)

kept : (b t : Bool) (e : Bytes × Bytes) (es rest : List (Bytes × Bytes)) (o : Option Bytes) → b ≡ t → cond t (Some e.1) o ≡ None → (o ≡ None → rest ≡ es)
    → cond (not b) (e ∷ rest) rest ≡ e ∷ es
kept b true e es rest o is none h = cc
kept true false e es rest o is none h = cc
kept false false e es rest o is none h = ap (λ xs. e ∷ xs) (h none)

-- as they were, if the key had none
pub others-missing : (key : Bytes) (entries : List (Bytes × Bytes)) → finite.find key_cmp key entries ≡ None → others key entries ≡ entries
others-missing key [] h = refl
others-missing key (e ∷ es) h =
    kept (pointwise ◌==◌ key e.0) (eq_by_cmp key_cmp key e.0) e es (others key es) (finite.find key_cmp key es) (texts_ties key e.0) h (others-missing key es)

-- 2. The victim.

-- the keys are the same, whichever way they are read
pub any_key : (q : Bytes → Bool) (entries : List (Bytes × Bytes)) → list_any q (keys_of (reverse entries)) ≡ list_any q (keys_of entries)
any_key q entries = sym (list_any-IsPermutation q _ _ (IsPermutation-map (λ e. e.0) entries (reverse entries) (IsPermutation-reverse entries)))

passes : (b : Bool) (q : Bytes → Bool) (k key : Bytes) (o : Option Bytes) (rest : Bool) → cond b (Some k) o ≡ Some key → q key ≡ true → (o ≡ Some key → rest ≡ true) → (q k || rest) ≡ true
passes true q k key o rest h t later = let same : k ≡ key = cc in or_left (q k) rest (ap q same ∙ t)
passes false q k key o rest h t later = or_right (q k) rest (later h)

-- what a search finds passes each test that it is known to pass
found_passes : (p q : Bytes → Bool) (keys : List Bytes) (key : Bytes) → find p keys ≡ Some key → q key ≡ true → list_any q keys ≡ true
found_passes p q [] key h t = cc
found_passes p q (k ∷ ks) key h t = passes (p k) q k key (find p ks) (list_any q ks) h t (λ e. found_passes p q ks key e t)

-- it has an entry
pub lru_victim-found : (entries : List (Bytes × Bytes)) (pinned : List Bytes) (key : Bytes) → lru_victim entries pinned ≡ Some key → is_some (finite.find key_cmp key entries) ≡ true
lru_victim-found entries pinned key h =
    is_some-find key_cmp key entries ∙ sym (any_key (eq_by_cmp key_cmp key) entries)
    ∙ found_passes _ (eq_by_cmp key_cmp key) (keys_of (reverse entries)) key h ((eq_by_cmp_equiv nat_list_cmp_total).refl key)

-- it isn't pinned
pub lru_victim-unpinned : (entries : List (Bytes × Bytes)) (pinned : List Bytes) (key : Bytes) → lru_victim entries pinned ≡ Some key → is_pinned pinned key ≡ false
lru_victim-unpinned entries pinned key h = not-true _ (found_test (λ k. not (is_pinned pinned k)) (keys_of (reverse entries)) key h)
