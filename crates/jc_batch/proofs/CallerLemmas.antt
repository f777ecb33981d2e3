-- What crates above may cite: finite maps whose keys are ordered, the maps that index maps mean, and index maps by keys.
--     IsKeyOrder             an order is total, and only equal keys tie
--     keys_ordered           that of keys is one
--     tied, split            a key ties with itself; by cases on whether two keys are one
--     get-here, get-gone     what was inserted is there, and what was removed is not
--     get-beside, get-left   another key has what it had
--     still-there            what was there is there
--     each_put, each_left    what is true of all that is there stays so
--     insert-there           what is there, inserted once more, changes nothing
--     insert-back            nor if it was removed first
--     find-entries, put-entries, remove-entries, popped
--                            a look-up of an index map, an insertion, a removal, and what was popped
--     nothing_at             an index map with no entry has nothing at any key
--     get-entries, insert-entries
--                            a look-up of an index map by keys, and an insertion, or a write through a lent value
--     at_place               what is so of all is so at each place
--     not_before, new_at     a key isn't among those before it, if all differ
--     entry_last             the entry of a new key goes last
use Rattle.std.proofs.Common.{◌≡◌, ◌==◌, ◌<◌, ◌||◌, ℕ, zero, suc, List, [], ◌∷◌, ◌++◌, length, take, get_or, slice_get, None, Some, Bool, true, false, cond, is_some, refl, sym, ap, subst, ◌∙◌}
use Rattle.std.specs.declared.cmp.Ordering.{Ordering}
use Rattle.std.specs.Ordering.{eq_by_cmp}
use Rattle.std.specs.List.{list_any, IsDistinct, AllByRecursion}
use Rattle.std.specs.Cmp.{IsTotalOrder, eq_by_cmp_equiv, Equal-is}
use Rattle.std.specs.Cmp.Lexicographic.{pointwise, texts_ties}
use Rattle.std.specs.Map.{keys_of, lookup}
use Rattle.std.specs.FinMap as map
use Rattle.std.specs.FinMap.{FinMap, IsAntisymmetric, find, insert, remove, same_map, from_entries, get-from_entries, get-insert, get-remove}
use Rattle.std.proofs.lemmas.Cmp.{nat_list_cmp_total, nat_list_eq_equiv}
use Rattle.std.proofs.lemmas.List.{nil_from_length}
use Rattle.std.proofs.lemmas.Map.Keys.{IsDistinct-head, IsDistinct-tail}
use Rattle.std.proofs.lemmas.Map.Lookups.{exact_bytes}
use Rattle.std.proofs.lemmas.Option.{slice_get_read}
use Rattle.indexmap.specs.IndexMap.{IndexMap, get, index_map_len, insert_entry, Updates}
use Rattle.indexmap.proofs.CallerLemmas.{insert_entry-new}
use Rattle.jc_model.specs.Cache.{Bytes, key_cmp}
use Rattle.jc_batch.proofs.Steps.{absent_from}

-- 1. Orders of keys.

pub record IsKeyOrder {K : Type 0} (R : K → K → Ordering) : Type 0 where
  pub total : IsTotalOrder R
  pub exact : IsAntisymmetric R

pub keys_ordered : IsKeyOrder key_cmp
keys_ordered = record { total = nat_list_cmp_total; exact = exact_bytes }

module _ {K : Type 0} {R : K → K → Ordering} (o : IsKeyOrder R) where
  pub tied : (k : K) → eq_by_cmp R k k ≡ true
  tied k = (eq_by_cmp_equiv o.total).refl k

  pub split : (q k : K) (P : Bool → Type 0) → (q ≡ k → P true) → (eq_by_cmp R q k ≡ false → P false) → P (eq_by_cmp R q k)
  split q k P here there =
      elim (eq_by_cmp R q k) as (λ b. eq_by_cmp R q k ≡ b → P b) [ true ↦ λ e. here (o.exact q k ((Equal-is (R q k)).0 e)) | false ↦ λ e. there e ] refl

  apart : (q k : K) → (q ≡ k → ⊥) → eq_by_cmp R q k ≡ false
  apart q k other = split q k (λ b. b ≡ false) (λ same. absurd (other same)) (λ e. refl)

-- 2. What a look-up says.

module _ {K X : Type 0} {R : K → K → Ordering} (o : IsKeyOrder R) where
  pub get-here : (m : FinMap R X) (k : K) (v : X) → map.get (insert m k v) k ≡ Some v
  get-here m k v = get-insert o.total m k v k ∙ ap (λ b. cond b (Some v) (map.get m k)) (tied o k)

  pub get-gone : (m : FinMap R X) (k : K) → map.get (remove m k) k ≡ None
  get-gone m k = get-remove o.total m k k ∙ ap (λ b. cond b None (map.get m k)) (tied o k)

  pub get-beside : (m : FinMap R X) (k : K) (v : X) (q : K) → (q ≡ k → ⊥) → map.get (insert m k v) q ≡ map.get m q
  get-beside m k v q other = get-insert o.total m k v q ∙ ap (λ b. cond b (Some v) (map.get m q)) (apart o q k other)

  pub get-left : (m : FinMap R X) (k q : K) → (q ≡ k → ⊥) → map.get (remove m k) q ≡ map.get m q
  get-left m k q other = get-remove o.total m k q ∙ ap (λ b. cond b None (map.get m q)) (apart o q k other)

  pub still-there : (m : FinMap R X) (k : K) (v : X) (q : K) → is_some (map.get m q) ≡ true → is_some (map.get (insert m k v) q) ≡ true
  still-there m k v q there =
      ap is_some (get-insert o.total m k v q) ∙ elim (eq_by_cmp R q k) as (λ b. is_some (cond b (Some v) (map.get m q)) ≡ true) [ true ↦ refl | false ↦ there ]

  pub each_put : (P : K → X → Type 0) (m : FinMap R X) (k : K) (v : X) → P k v → ((q : K) (x : X) → map.get m q ≡ Some x → P q x) → (q : K) (x : X) → map.get (insert m k v) q ≡ Some x → P q x
  each_put P m k v one all q x is =
      split o q k (λ b. cond b (Some v) (map.get m q) ≡ Some x → P q x)
      (λ same e. let it : v ≡ x = cc in subst (λ p. P p x) (sym same) (subst (P k) it one))
      (λ other e. all q x e)
      (sym (get-insert o.total m k v q) ∙ is)

  pub each_left : (P : K → X → Type 0) (m : FinMap R X) (k : K) → ((q : K) (x : X) → (q ≡ k → ⊥) → map.get m q ≡ Some x → P q x) → (q : K) (x : X) → map.get (remove m k) q ≡ Some x → P q x
  each_left P m k all q x is =
      split o q k (λ b. cond b None (map.get m q) ≡ Some x → P q x)
      (λ same e. cc)
      (λ other e. all q x (λ same. let t : true ≡ false = sym (tied o k) ∙ ap (λ p. eq_by_cmp R p k) (sym same) ∙ other in cc) e)
      (sym (get-remove o.total m k q) ∙ is)

  pub insert-there : (m : FinMap R X) (k : K) (v : X) → map.get m k ≡ Some v → insert m k v ≡ m
  insert-there m k v there = same_map o.total o.exact _ _ (λ q.
      get-insert o.total m k v q
      ∙ split o q k (λ b. cond b (Some v) (map.get m q) ≡ map.get m q) (λ same. sym (ap (map.get m) same ∙ there)) (λ other. refl))

  pub insert-back : (m : FinMap R X) (k : K) (v : X) → map.get m k ≡ Some v → insert (remove m k) k v ≡ m
  insert-back m k v there = same_map o.total o.exact _ _ (λ q.
      get-insert o.total (remove m k) k v q
      ∙ split o q k (λ b. cond b (Some v) (map.get (remove m k) q) ≡ map.get m q) (λ same. sym (ap (map.get m) same ∙ there))
      (λ other. get-remove o.total m k q ∙ ap (λ b. cond b None (map.get m q)) other))

-- 3. Index maps.

module _ {K X : Type 0} where
  -- one that was pushed is found, if it wasn't there
  pub lookup-push : (test : K → Bool) (es : List (K × X)) (k : K) (v : X) → lookup test es ≡ None → test k ≡ true → lookup test (es ++ (k, v) ∷ []) ≡ Some v
  lookup-push test [] k v none t = ap (λ b. cond b (Some v) None) t
  lookup-push test (e ∷ es) k v none t =
      elim (test e.0) as (λ b. cond b (Some e.1) (lookup test es) ≡ None → cond b (Some e.1) (lookup test (es ++ (k, v) ∷ [])) ≡ Some v) [ true ↦ λ h. cc | false ↦ λ h. lookup-push test es k v h t ] none

module _ {K : Type 0} {R : K → K → Ordering} (o : IsKeyOrder R) (eq : K → K → Bool) (ties : (p q : K) → eq p q ≡ eq_by_cmp R p q) where
  turned : (k q : K) → eq k q ≡ eq_by_cmp R q k
  turned k q = ties k q ∙ (eq_by_cmp_equiv o.total).symm k q

  found : {X : Type 0} (es : List (K × X)) (q : K) → lookup (eq q) es ≡ find R q es
  found [] q = refl
  found (e ∷ es) q = λ i. cond (ties q e.0 i) (Some e.1) (found es q i)

module _ {K X S : Type 0} {R : K → K → Ordering} (o : IsKeyOrder R) (eq : K → K → Bool) (ties : (p q : K) → eq p q ≡ eq_by_cmp R p q) where
  pub find-entries : (m : IndexMap K X S) (q : K) → get eq m q ≡ map.get (from_entries {R = R} m.entries) q
  find-entries m q = found o eq ties m.entries q ∙ sym (get-from_entries o.total m.entries q)

  pub put-entries : (m n : IndexMap K X S) (k : K) (v : X) → Updates eq m n k (Some v) → from_entries {R = R} n.entries ≡ insert (from_entries m.entries) k v
  put-entries m n k v u = same_map o.total o.exact _ _ (λ q.
      sym (find-entries n q) ∙ u.0 q ∙ (λ i. cond (turned o eq ties k q i) (Some v) (find-entries m q i))
      ∙ sym (get-insert o.total (from_entries m.entries) k v q))

  pub remove-entries : (m n : IndexMap K X S) (k : K) → Updates eq m n k None → from_entries {R = R} n.entries ≡ remove (from_entries m.entries) k
  remove-entries m n k u = same_map o.total o.exact _ _ (λ q.
      sym (find-entries n q) ∙ u.0 q ∙ (λ i. cond (turned o eq ties k q i) None (find-entries m q i))
      ∙ sym (get-remove o.total (from_entries m.entries) k q))

  pub popped : (m n : IndexMap K X S) (k : K) (v : X) → m.entries ≡ n.entries ++ (k, v) ∷ [] → Updates eq m n k None → map.get (from_entries {R = R} m.entries) k ≡ Some v
  popped m n k v is u =
      sym (find-entries m k) ∙ ap (lookup (eq k)) is
      ∙ lookup-push (eq k) n.entries k v u.1 (ties k k ∙ tied o k)

  -- a map with no entry has nothing at any key
  pub nothing_at : (m : IndexMap K X S) (q : K) → index_map_len m ≡ 0 → map.get (from_entries {R = R} m.entries) q ≡ None
  nothing_at m q none = get-from_entries o.total m.entries q ∙ ap (find R q) (nil_from_length m.entries none)

-- 4. Index maps by keys.

module _ {X S : Type 0} where
  pub get-entries : (m : IndexMap Bytes X S) (q : Bytes) → get (pointwise ◌==◌) m q ≡ map.get (from_entries {R = key_cmp} m.entries) q
  get-entries = find-entries keys_ordered (pointwise ◌==◌) texts_ties

  pub insert-entries : (m n : IndexMap Bytes X S) (k : Bytes) (v : X) → Updates (pointwise ◌==◌) m n k (Some v) → from_entries {R = key_cmp} n.entries ≡ insert (from_entries m.entries) k v
  insert-entries = put-entries keys_ordered (pointwise ◌==◌) texts_ties

-- 5. A walk over keys that differ.

pub at_place : {X : Type 0} (P : X → Type 0) (xs : List X) (i : ℕ) (x : X) → AllByRecursion P xs → slice_get xs i ≡ Some x → P x
at_place P [] i x all at = cc
at_place P (y ∷ ys) zero x all at = let is : y ≡ x = cc in subst P is all.0
at_place P (y ∷ ys) (suc i) x all at = at_place P ys i x all.1 at

pub not_before : (keys : List Bytes) (i : ℕ) (key : Bytes) → IsDistinct (pointwise ◌==◌) keys → slice_get keys i ≡ Some key → list_any (pointwise ◌==◌ key) (take i keys) ≡ false
not_before [] zero key d at = refl
not_before [] (suc i) key d at = refl
not_before (x ∷ keys) zero key d at = refl
not_before (x ∷ keys) (suc i) key d at =
    let apart : pointwise ◌==◌ x key ≡ false = at_place (λ y. pointwise ◌==◌ x y ≡ false) keys i key (IsDistinct-head (pointwise ◌==◌) x keys d) at in
    ap (λ b. b || list_any (pointwise ◌==◌ key) (take i keys)) (nat_list_eq_equiv.symm key x ∙ apart) ∙ not_before keys i key (IsDistinct-tail (pointwise ◌==◌) x keys d) at

-- of the key that a walk has come to
pub new_at : (keys : List Bytes) (i : ℕ) (key : Bytes) → IsDistinct (pointwise ◌==◌) keys → i < length keys → key ≡ get_or keys i key → list_any (pointwise ◌==◌ key) (take i keys) ≡ false
new_at keys i key d near is = not_before keys i key d (slice_get_read keys (length keys) i key refl near is)

-- 6. New keys.

pub entry_last : {X S : Type 0} (m : IndexMap Bytes X S) (key : Bytes) (x : X) → list_any (pointwise ◌==◌ key) (keys_of m.entries) ≡ false
    → insert_entry (pointwise ◌==◌) m.entries key x ≡ m.entries ++ (key, x) ∷ []
entry_last m key x new = insert_entry-new (pointwise ◌==◌) m key x (absent_from (pointwise ◌==◌ key) m.entries new)
