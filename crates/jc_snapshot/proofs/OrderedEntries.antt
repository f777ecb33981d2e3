-- The entries of a tree, and the finite map that they make.
--     tree-insert      the map of a tree with one more entry
--     tree-entries     the map of a tree has the tree's entries, in its order
use Rattle.std.specs.Prelude.{T}
use Rattle.jc_snapshot.proofs.Common.{◌≡◌, List, [], ◌∷◌, true, cond, Some, ap, refl, sym, subst, ◌∙◌, ◌&&◌, AllByRecursion, IsAntisymmetric, find, is_sorted, from_entries, same_map, get-from_entries, get-from_sorted, get-insert}
use Rattle.std.specs.declared.cmp.Ordering.{Ordering}
use Rattle.std.specs.declared.cmp.Ordering.TheVariants.{Less}
use Rattle.std.specs.Ordering.{eq_by_cmp, is_lt}
use Rattle.std.specs.List.Sorted.{IsStrictlySortedBy}
use Rattle.std.specs.Cmp.{IsTotalOrder, eq_by_cmp_equiv}
use Rattle.std.specs.Map.{keys_of, lookup}
use Rattle.std.specs.BTreeMap as tree
use Rattle.std.specs.BTreeMap.{BTreeMap}
use Rattle.std.specs.FinMap as map
use Rattle.std.specs.FinMap.Entries.{below_all}

module _ {K X : Type 0} {R : K → K → Ordering} (o : IsTotalOrder R) (exact : IsAntisymmetric R) where
  -- a look-up in a list of entries is a search from its front
  lookup-find : (key : K) (entries : List (K × X)) → lookup (tree.is_at (R key)) entries ≡ find R key entries
  lookup-find key [] = refl
  lookup-find key (e ∷ es) = ap (cond (eq_by_cmp R key e.0) (Some e.1)) (lookup-find key es)

  -- what the tree has at a key, its finite map has there
  get-tree : (m : BTreeMap K X) (key : K) → tree.get R m key ≡ map.get (from_entries {R = R} m.entries) key
  get-tree m key = lookup-find key m.entries ∙ sym (get-from_entries o m.entries key)

  pub tree-insert : (m n : BTreeMap K X) (key : K) (x : X) → tree.Updates R m n key (Some x) → from_entries {R = R} n.entries ≡ map.insert (from_entries m.entries) key x
  tree-insert m n key x updates = same_map o exact _ _ (λ q.
      sym (get-tree n q) ∙ updates.0 q
      ∙ ap (λ b. cond b (Some x) (tree.get R m q)) ((eq_by_cmp_equiv o).symm key q)
      ∙ ap (cond (eq_by_cmp R q key) (Some x)) (get-tree m q)
      ∙ sym (get-insert o (from_entries m.entries) key x q))

  -- a key below each of these keys is below each of their entries
  below : (key : K) (entries : List (K × X)) → AllByRecursion (λ q. R key q ≡ Less) (keys_of entries) → below_all R key entries ≡ true
  below key [] h = refl
  below key (e ∷ es) h = ap (λ r. is_lt r && below_all R key es) h.0 ∙ below key es h.1

  -- entries whose keys ascend are sorted
  ascending : (entries : List (K × X)) → IsStrictlySortedBy R (keys_of entries) → is_sorted R entries ≡ true
  unfolding IsStrictlySortedBy
  ascending [] h = refl
  ascending (e ∷ es) h = ap (λ b. b && is_sorted R es) (below e.0 es h.0) ∙ ascending es h.1

  pub tree-entries : (m : BTreeMap K X) → tree.IsOrdered R m → map.entries (from_entries {R = R} m.entries) ≡ m.entries
  tree-entries m h =
      let sorted : T (is_sorted R m.entries) = subst T (sym (ascending m.entries h)) tt in
      let same : from_entries {R = R} m.entries ≡ map.from_sorted m.entries = same_map o exact _ _ (λ q. get-from_entries o m.entries q ∙ sym (get-from_sorted R m.entries q sorted)) in
      ap map.entries same ∙ map.entries-from_sorted R m.entries sorted
