-- The entries of a `BTreeMap` of keys, and the finite map that they make.
use Rattle.std.specs.Prelude.{T}
use Rattle.std.proofs.Common.{◌≡◌, ℕ, ◌≤◌, ◌++◌, take, List, [], ◌∷◌, true, cond, length, Option, Some, ap, refl, sym, subst, ◌∙◌, ◌&&◌}
use Rattle.std.specs.declared.cmp.Ordering.TheVariants.{Less}
use Rattle.std.specs.Ordering.{eq_by_cmp, is_lt}
use Rattle.std.specs.List.{AllByRecursion}
use Rattle.std.specs.List.Sorted.{IsStrictlySortedBy}
use Rattle.std.specs.Cmp.{eq_by_cmp_equiv}
use Rattle.std.specs.Map.{keys_of, lookup}
use Rattle.std.specs.BTreeMap as tree
use Rattle.std.specs.BTreeMap.{BTreeMap}
use Rattle.std.specs.FinMap as map
use Rattle.std.specs.FinMap.{find, is_sorted, from_entries}
use Rattle.std.specs.FinMap.Entries.{below_all}
use Rattle.std.proofs.lemmas.Cmp.{nat_list_cmp_total}
use Rattle.std.proofs.lemmas.List.{take-append-le}
use Rattle.std.proofs.Math.Seq.{take-append_seam}
use Rattle.jc_model.specs.Cache.{Bytes, key_cmp, entry_at, with_entry}
use Rattle.jc_model.proofs.CallerLemmas.{same_cache, get-with_entry}

-- a look-up in a list of entries is a search from its front
pub lookup-find : (key : Bytes) (entries : List (Bytes × Bytes)) → lookup (tree.is_at (key_cmp key)) entries ≡ find key_cmp key entries
lookup-find key [] = refl
lookup-find key (e ∷ es) = ap (cond (eq_by_cmp key_cmp key e.0) (Some e.1)) (lookup-find key es)

-- what the tree has at a key, its finite map has there
pub get-cache : (m : BTreeMap Bytes Bytes) (key : Bytes) → tree.get key_cmp m key ≡ entry_at (from_entries m.entries) key
get-cache m key = lookup-find key m.entries ∙ sym (map.get-from_entries nat_list_cmp_total m.entries key)

-- a tree that was updated at a key stands for the cache with that entry
pub cache-updates : (m n : BTreeMap Bytes Bytes) (key : Bytes) (entry : Option Bytes) → tree.Updates key_cmp m n key entry → from_entries n.entries ≡ with_entry (from_entries m.entries) key entry
cache-updates m n key entry updates = same_cache _ _ (λ q.
    sym (get-cache n q) ∙ updates.0 q
    ∙ ap (λ b. cond b entry (tree.get key_cmp m q)) ((eq_by_cmp_equiv nat_list_cmp_total).symm key q)
    ∙ ap (cond (eq_by_cmp key_cmp q key) entry) (get-cache m q)
    ∙ sym (get-with_entry (from_entries m.entries) key entry q))

-- a key below each of these keys is below each of their entries
below : (key : Bytes) (entries : List (Bytes × Bytes)) → AllByRecursion (λ q. key_cmp key q ≡ Less) (keys_of entries) → below_all key_cmp key entries ≡ true
below key [] h = refl
below key (e ∷ es) h = ap (λ r. is_lt r && below_all key_cmp key es) h.0 ∙ below key es h.1

-- entries whose keys ascend are sorted
pub is_sorted-ascending : (entries : List (Bytes × Bytes)) → IsStrictlySortedBy key_cmp (keys_of entries) → is_sorted key_cmp entries ≡ true
unfolding IsStrictlySortedBy
is_sorted-ascending [] h = refl
is_sorted-ascending (e ∷ es) h = ap (λ b. b && is_sorted key_cmp es) (below e.0 es h.0) ∙ is_sorted-ascending es h.1

-- the cache of a tree has the tree's entries, in its order
pub entries-cache : (m : BTreeMap Bytes Bytes) → tree.IsOrdered key_cmp m → map.entries (from_entries {R = key_cmp} m.entries) ≡ m.entries
entries-cache m h =
    let sorted : T (is_sorted key_cmp m.entries) = subst T (sym (is_sorted-ascending m.entries h)) tt in
    let same : from_entries m.entries ≡ map.from_sorted m.entries = same_cache _ _ (λ q. map.get-from_entries nat_list_cmp_total m.entries q ∙ sym (map.get-from_sorted key_cmp m.entries q sorted)) in
    ap map.entries same ∙ map.entries-from_sorted key_cmp m.entries sorted

-- the cache of a tree has as many keys
pub len-cache : (m : BTreeMap Bytes Bytes) → tree.IsOrdered key_cmp m → map.len (from_entries {R = key_cmp} m.entries) ≡ length m.entries
len-cache m h = map.len-entries _ ∙ ap length (entries-cache m h)

-- a list with more behind it, cut to its length, is the list
pub cut_back : {A : Type 0} (n : ℕ) (before now rest more : List A) → n ≡ length before → n ≤ length now → now ++ rest ≡ before ++ more → take n now ≡ before
cut_back n before now rest more len le e =
    sym (take-append-le n now rest le) ∙ ap (take n) e ∙ ap (λ k. take k (before ++ more)) len ∙ take-append_seam before more
