-- Lemmas for the crates above: entries in a list and the map that they make; openings; the callers' order with one event more;
-- operations by their numbers.
-- 1. Entries in a list, and the map that they make.
use Rattle.std.proofs.Common.{◌≡◌, ℕ, ◌+◌, suc, ◌<◌, ◌==◌, List, [], ◌∷◌, Bool, true, false, cond, not, length, drop, get_or, Option, Some, None, is_some, is_none, ◌&&◌, ◌≤◌, ◌++◌, ap, refl, sym, ◌∙◌, add-one, drop-cons, arith}
use Rattle.std.specs.Ordering.{eq_by_cmp, is_eq}
use Rattle.std.specs.declared.cmp.Ordering.{Ordering}
use Rattle.std.specs.declared.cmp.Ordering.TheVariants.{Less, Equal, Greater}
use Rattle.std.specs.Cmp.Lexicographic.{texts_ties, pointwise}
use Rattle.std.specs.Cmp.{eq_by_cmp_equiv}
use Rattle.std.proofs.lemmas.Cmp.{nat_list_cmp_total}
use Rattle.std.proofs.lemmas.Map.Lookups.{exact_bytes}
use Rattle.std.specs.List.{list_all}
use Rattle.std.proofs.lemmas.List.Folds.{list_all-append}
use Rattle.std.proofs.lemmas.Bool.{and_parts, eqb-true}
use Rattle.std.specs.FinMap.{find, insert, remove, len, empty, get-empty, from_entries, same_map, get-from_entries, get-remove, get-insert, len-insert, len-empty}
use Rattle.std.specs.FinMap.Entries.{find-where_key}
use Rattle.jc_types.specs.declared.config.Config.{Config}
use Rattle.jc_types.specs.Stripes.{stripe_of}
use Rattle.jc_model.specs.declared.event.Event.{Event}
use Rattle.jc_model.specs.declared.event.Op.{Op}
use Rattle.jc_model.specs.declared.event.Op.TheVariants.{LoadAll}
use Rattle.jc_model.specs.Cache.{Bytes, Cache, key_cmp, entry_at, with_entry}
use Rattle.jc_model.specs.Listed.{others, with_entry_first, has_distinct_keys}
use Rattle.jc_model.specs.Table.{op_number, op_values, value_count, numbered_op}
use Rattle.jc_model.specs.Legal.{IsOpening, may_follow, in_order}

-- a search from place i on looks at the entry there, and then continues
pub find_at : (key : Bytes) (entries : List (Bytes × Bytes)) (i : ℕ) (item : Bytes × Bytes) (b : Bool) → i < length entries → item ≡ get_or entries i item → pointwise ◌==◌ key item.0 ≡ b
    → find key_cmp key (drop i entries) ≡ cond b (Some item.1) (find key_cmp key (drop (i + 1) entries))
find_at key entries i item b h is e =
    rw (add-one, drop-cons entries i item, ← is)
    (ap (λ t. cond t (Some item.1) (find key_cmp key (drop (suc i) entries))) (sym (texts_ties key item.0) ∙ e))

turned : {A : Type 0} (b c : Bool) (x y : A) → b ≡ c → cond (not b) x y ≡ cond c y x
turned true c x y e = ap (λ t. cond t y x) e
turned false c x y e = ap (λ t. cond t y x) e

-- two caches that answer alike are one
pub same_cache : (m n : Cache) → ((key : Bytes) → entry_at m key ≡ entry_at n key) → m ≡ n
same_cache m n h = same_map nat_list_cmp_total exact_bytes m n h

pub find-others : (key : Bytes) (entries : List (Bytes × Bytes)) (q : Bytes) → find key_cmp q (others key entries) ≡ cond (eq_by_cmp key_cmp q key) None (find key_cmp q entries)
find-others key entries q =
    find-where_key key_cmp (λ x. not (pointwise ◌==◌ key x)) q (λ x e. ap (λ y. not (pointwise ◌==◌ key y)) (sym (exact_bytes q x e))) entries
    ∙ turned (pointwise ◌==◌ key q) (eq_by_cmp key_cmp q key) _ _ (texts_ties key q ∙ (eq_by_cmp_equiv nat_list_cmp_total).symm key q)

pub from_entries-others : (key : Bytes) (entries : List (Bytes × Bytes)) → from_entries {R = key_cmp} (others key entries) ≡ remove (from_entries entries) key
from_entries-others key entries = same_cache _ _ (λ q.
    get-from_entries nat_list_cmp_total (others key entries) q ∙ find-others key entries q
    ∙ sym (get-remove nat_list_cmp_total (from_entries entries) key q ∙ ap (cond (eq_by_cmp key_cmp q key) None) (get-from_entries nat_list_cmp_total entries q)))

pub shadowed : {A : Type 0} (b : Bool) (x y z : A) → cond b x (cond b y z) ≡ cond b x z
shadowed true x y z = refl
shadowed false x y z = refl

pub insert-remove : (m : Cache) (key value : Bytes) → insert (remove m key) key value ≡ insert m key value
insert-remove m key value = same_cache _ _ (λ q.
    get-insert nat_list_cmp_total (remove m key) key value q ∙ ap (cond (eq_by_cmp key_cmp q key) (Some value)) (get-remove nat_list_cmp_total m key q)
    ∙ shadowed (eq_by_cmp key_cmp q key) _ _ _ ∙ sym (get-insert nat_list_cmp_total m key value q))

pub from_entries-first : (key : Bytes) (entry : Option Bytes) (entries : List (Bytes × Bytes)) → from_entries {R = key_cmp} (with_entry_first key entry entries) ≡ with_entry (from_entries entries) key entry
from_entries-first key None entries = from_entries-others key entries
from_entries-first key (Some value) entries = ap (λ m. insert m key value) (from_entries-others key entries) ∙ insert-remove _ key value

pub none_is : {A : Type 0} (o : Option A) → is_none o ≡ true → o ≡ None
none_is None h = refl
none_is (Some x) h = cc

pub len-distinct : (entries : List (Bytes × Bytes)) → has_distinct_keys entries ≡ true → len (from_entries {R = key_cmp} entries) ≡ length entries
len-distinct [] h = len-empty key_cmp Bytes
len-distinct (e ∷ es) h =
    let parts = and_parts (is_none (find key_cmp e.0 es)) (has_distinct_keys es) h in
    let missing : entry_at (from_entries es) e.0 ≡ None = get-from_entries nat_list_cmp_total es e.0 ∙ none_is _ parts.0 in
    len-insert nat_list_cmp_total (from_entries es) e.0 e.1
    ∙ ap (λ (o : Option Bytes). cond (is_some o) (len (from_entries {R = key_cmp} es)) (len (from_entries {R = key_cmp} es) + 1)) missing
    ∙ omega (arith, len-distinct es parts.1)

-- what is apart stays so without a key
pub missing-others : (key q : Bytes) (entries : List (Bytes × Bytes)) → is_none (find key_cmp q entries) ≡ true → is_none (find key_cmp q (others key entries)) ≡ true
missing-others key q entries h =
    ap is_none (find-others key entries q)
    ∙ ap (λ o. is_none (cond (eq_by_cmp key_cmp q key) None o)) (none_is _ h)
    ∙ elim (eq_by_cmp key_cmp q key) as (λ b. is_none {T = Bytes} (cond b None None) ≡ true) [ true ↦ refl | false ↦ refl ]

pub distinct-others : (key : Bytes) (entries : List (Bytes × Bytes)) → has_distinct_keys entries ≡ true → has_distinct_keys (others key entries) ≡ true
distinct-others key [] h = refl
distinct-others key (e ∷ es) h =
    let parts = and_parts (is_none (find key_cmp e.0 es)) (has_distinct_keys es) h in
    let rest = distinct-others key es parts.1 in
    elim (not (pointwise ◌==◌ key e.0)) as (λ b. has_distinct_keys (cond b (e ∷ others key es) (others key es)) ≡ true) [
      | true ↦ ap (λ b. b && has_distinct_keys (others key es)) (missing-others key e.0 es parts.0) ∙ rest
      | false ↦ rest
    ]

pub distinct-first : (key : Bytes) (entry : Option Bytes) (entries : List (Bytes × Bytes)) → has_distinct_keys entries ≡ true → has_distinct_keys (with_entry_first key entry entries) ≡ true
distinct-first key None entries h = distinct-others key entries h
distinct-first key (Some value) entries h =
    ap (λ o. is_none o && has_distinct_keys (others key entries)) (find-others key entries key ∙ ap (λ b. cond b None (find key_cmp key entries)) ((eq_by_cmp_equiv nat_list_cmp_total).refl key))
    ∙ distinct-others key entries h

pub is_eq_then : (r : Ordering) → is_eq r ≡ true → r ≡ Equal
is_eq_then Less h = cc
is_eq_then Equal h = refl
is_eq_then Greater h = cc

-- keys that compare alike are one
pub same_key : (q key : Bytes) → eq_by_cmp key_cmp q key ≡ true → q ≡ key
same_key q key h = exact_bytes q key (is_eq_then _ h)

pub get-with_entry : (m : Cache) (key : Bytes) (entry : Option Bytes) (q : Bytes) → entry_at (with_entry m key entry) q ≡ cond (eq_by_cmp key_cmp q key) entry (entry_at m q)
get-with_entry m key None q = get-remove nat_list_cmp_total m key q
get-with_entry m key (Some value) q = get-insert nat_list_cmp_total m key value q

-- the entries that are left where a key has gone
pub get-without : (cache : Cache) (gone key : Bytes) (b : Bool) → pointwise ◌==◌ key gone ≡ b → entry_at (remove cache gone) key ≡ cond b None (entry_at cache key)
get-without cache gone key b e = get-remove nat_list_cmp_total cache gone key ∙ ap (λ t. cond t None (entry_at cache key)) (sym (texts_ties key gone) ∙ e)

-- 2. Openings.

none_some : is_some {T = Bytes} None ≡ true → ⊥
none_some h = cc

-- a test that holds of each entry's key holds of each key that is found
pub found_holds : (p : Bytes → Bool) (entries : List (Bytes × Bytes)) (q : Bytes) → list_all (λ e. p e.0) entries ≡ true → is_some (find key_cmp q entries) ≡ true → p q ≡ true
found_holds p [] q all found = absurd (none_some found)
found_holds p (e ∷ es) q all found =
    let parts = and_parts (p e.0) (list_all (λ e. p e.0) es) all in
    elim (eq_by_cmp key_cmp q e.0) as (λ b. eq_by_cmp key_cmp q e.0 ≡ b → is_some (cond b (Some e.1) (find key_cmp q es)) ≡ true → p q ≡ true) [
      | true ↦ λ same f. ap p (same_key q e.0 same) ∙ parts.0
      | false ↦ λ other f. found_holds p es q parts.1 f
    ] refl found

pub opening_of : (config : Config) (stripe : ℕ) (opening : List (Bytes × Bytes)) → has_distinct_keys opening ≡ true → length opening ≤ config.capacity
    → list_all (λ e. stripe_of e.0 config.stripes == stripe) opening ≡ true → IsOpening config stripe (from_entries opening)
opening_of config stripe opening once few own = record {
  few = let e = len-distinct opening once in omega arith;
  own = λ key found. eqb-true (stripe_of key config.stripes) stripe
      (found_holds (λ k. stripe_of k config.stripes == stripe) opening key own (ap is_some (sym (get-from_entries nat_list_cmp_total opening key)) ∙ found));
}

-- a stripe may begin with nothing
pub empty_opens : (config : Config) (stripe : ℕ) → IsOpening config stripe empty
empty_opens config stripe = record {
  few = let e = len-empty key_cmp Bytes in omega arith;
  own = λ key found. absurd (none_some (ap is_some (sym (get-empty key_cmp key)) ∙ found));
}

-- 3. The callers' order.

-- an event follows all of these
abbrev pub follows_all : List Event → Event → Bool
follows_all events event = list_all (λ earlier. may_follow earlier event) events

swapped : (a o m l : Bool) → ((a && (m && true)) && (o && l)) ≡ ((a && o) && (m && l))
swapped false o m l = refl
swapped true o true l = refl
swapped true false false l = refl
swapped true true false l = refl

pub order-last : (events : List Event) (event : Event) → in_order (events ++ event ∷ []) ≡ (in_order events && follows_all events event)
order-last [] event = refl
order-last (x ∷ xs) event =
    ap (λ b. b && in_order (xs ++ event ∷ [])) (list_all-append (may_follow x) xs (event ∷ []))
    ∙ ap (λ b. (list_all (may_follow x) xs && (may_follow x event && true)) && b) (order-last xs event)
    ∙ swapped (list_all (may_follow x) xs) (in_order xs) (may_follow x event) (follows_all xs event)

-- 4. An operation is the one that has its number and its values.

-- these are the first two of the values, as far as there are any
abbrev pub AreFirst : List Bytes → Bytes → Bytes → Type 0
AreFirst [] first second = Unit {0}
AreFirst (value ∷ []) first second = first ≡ value
AreFirst (value ∷ next ∷ values) first second = (first ≡ value) × (second ≡ next)

pub numbered : (op : Op) (first second : Bytes) → AreFirst (op_values op) first second → numbered_op (op_number op) first second ≡ op
numbered (LoadAll false) first second h = refl
numbered (LoadAll true) first second h = refl
numbered op first second h = cc

pub record IsNumbered (op : Op) : Type 0 where
  pub count : value_count (op_number op) ≡ length (op_values op)
  pub few : length (op_values op) ≤ 2

pub is_numbered : (op : Op) → IsNumbered op
is_numbered (LoadAll false) = record { count = refl; few = omega arith }
is_numbered (LoadAll true) = record { count = refl; few = omega arith }
is_numbered op = record { count = refl; few = omega arith }
