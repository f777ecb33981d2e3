-- Batches, one key or entry after the other.
use Rattle.std.proofs.Common.{◌≡◌, List, [], ◌∷◌, ◌++◌, None, Some, Option, Bool, true, false, cond, ◌||◌, is_some, Result, Ok, Err, map, refl, sym, ap, ◌∙◌}
use Rattle.std.specs.Result.{is_err, OnOk}
use Rattle.std.specs.Ordering.{eq_by_cmp}
use Rattle.std.specs.Cmp.{eq_by_cmp_equiv}
use Rattle.std.proofs.lemmas.Cmp.{nat_list_cmp_total}
use Rattle.std.proofs.lemmas.Map.Lookups.{exact_bytes}
use Rattle.std.specs.FinMap.{get, insert, find, same_map, from_entries, get-from_entries, get-insert}
use Rattle.jc_model.specs.Cache.{Bytes, Cache, key_cmp, entry_at, with_entry}
use Rattle.jc_model.proofs.CallerLemmas.{same_key}
use Rattle.jc_outside.specs.Answers.{AnswersByKey, is_asked, answers_with}
use Rattle.jc_store.specs.Store.{answers_from, with_entries, without_keys}

-- 1. Changes.

pub with_entries-last : (store : Cache) (es : List (Bytes × Bytes)) (e : Bytes × Bytes) → with_entries store (es ++ e ∷ []) ≡ with_entry (with_entries store es) e.0 (Some e.1)
with_entries-last store [] e = refl
with_entries-last store (x ∷ xs) e = with_entries-last (with_entry store x.0 (Some x.1)) xs e

pub without_keys-last : (store : Cache) (keys : List Bytes) (key : Bytes) → without_keys store (keys ++ key ∷ []) ≡ with_entry (without_keys store keys) key None
without_keys-last store [] key = refl
without_keys-last store (x ∷ xs) key = without_keys-last (with_entry store x None) xs key

pub when_ok : {T E : Type 0} (r : Result T E) (P : Type 0) → is_err r ≡ false → OnOk r P → P
when_ok (Ok x) P ok p = p
when_ok (Err y) P ok p = cc

-- 2. Answers.

abbrev pub among : Bytes → List Bytes → Bool
among q [] = false
among q (k ∷ ks) = eq_by_cmp key_cmp q k || among q ks

-- the answers of these keys, if each is answered by f
abbrev pub answers_by : (Bytes → Option Bytes) → List Bytes → AnswersByKey
answers_by f keys = from_entries (map (λ key. (key, f key)) keys)

-- the store's values at these keys alone
abbrev pub values_at : Cache → List Bytes → Bytes → Option Bytes
values_at store done q = cond (among q done) (entry_at store q) None

get-answers : (f : Bytes → Option Bytes) (keys : List Bytes) (q : Bytes) → find key_cmp q (map (λ key. (key, f key)) keys) ≡ cond (among q keys) (Some (f q)) None
get-answers f [] q = refl
get-answers f (k ∷ ks) q =
    elim (eq_by_cmp key_cmp q k) as (λ b. eq_by_cmp key_cmp q k ≡ b → cond b (Some (f k)) (find key_cmp q (map (λ key. (key, f key)) ks)) ≡ cond (b || among q ks) (Some (f q)) None) [
      | true ↦ λ same. ap (λ (x : Bytes). Some (f x)) (sym (same_key q k same))
      | false ↦ λ other. get-answers f ks q
    ] refl

pub get-by : (f : Bytes → Option Bytes) (keys : List Bytes) (q : Bytes) → get (answers_by f keys) q ≡ cond (among q keys) (Some (f q)) None
get-by f keys q = get-from_entries nat_list_cmp_total (map (λ key. (key, f key)) keys) q ∙ get-answers f keys q

inner : (b : Bool) (x : Option Bytes) → cond b (Some (cond b x None)) None ≡ cond b (Some x) None
inner true x = refl
inner false x = refl

-- at the end all are answered
pub all-answered : (store : Cache) (keys : List Bytes) → answers_by (values_at store keys) keys ≡ answers_from store keys
all-answered store keys = same_map nat_list_cmp_total exact_bytes _ _ (λ q.
    get-by (values_at store keys) keys q ∙ inner (among q keys) (entry_at store q) ∙ sym (get-by (entry_at store) keys q))

or_false : (b : Bool) → (b || false) ≡ b
or_false true = refl
or_false false = refl

or_true : (b : Bool) → (b || true) ≡ true
or_true true = refl
or_true false = refl

or_or : (a b c : Bool) → (a || (b || c)) ≡ ((a || b) || c)
or_or true b c = refl
or_or false b c = refl

pub among-append : (q : Bytes) (xs ys : List Bytes) → among q (xs ++ ys) ≡ (among q xs || among q ys)
among-append q [] ys = refl
among-append q (x ∷ xs) ys = ap (λ b. eq_by_cmp key_cmp q x || b) (among-append q xs ys) ∙ or_or (eq_by_cmp key_cmp q x) (among q xs) (among q ys)

-- a key is among keys that it is in
pub is_among : (k : Bytes) (before after : List Bytes) → among k ((before ++ k ∷ []) ++ after) ≡ true
is_among k before after =
    among-append k (before ++ k ∷ []) after
    ∙ ap (λ b. b || among k after) (among-append k before (k ∷ []) ∙ ap (λ b. among k before || (b || false)) ((eq_by_cmp_equiv nat_list_cmp_total).refl k) ∙ or_true (among k before))

values-more : (store : Cache) (done : List Bytes) (k q : Bytes) → values_at store (done ++ k ∷ []) q ≡ cond (among q done || eq_by_cmp key_cmp q k) (entry_at store q) None
values-more store done k q = ap (λ b. cond b (entry_at store q) None) (among-append q done (k ∷ []) ∙ ap (λ b. among q done || b) (or_false (eq_by_cmp key_cmp q k)))

absent : (b : Bool) (x : Option Bytes) → x ≡ None → cond b x None ≡ None
absent true x e = e
absent false x e = refl

-- a key without an entry
pub none-answered : (store : Cache) (done keys : List Bytes) (k : Bytes) → entry_at store k ≡ None → answers_by (values_at store done) keys ≡ answers_by (values_at store (done ++ k ∷ [])) keys
none-answered store done keys k none = same_map nat_list_cmp_total exact_bytes _ _ (λ q.
    let nothing : eq_by_cmp key_cmp q k ≡ true → entry_at store q ≡ None = λ same. ap (entry_at store) (same_key q k same) ∙ none in
    let alike : values_at store done q ≡ values_at store (done ++ k ∷ []) q =
    elim (eq_by_cmp key_cmp q k) as (λ b. eq_by_cmp key_cmp q k ≡ b → cond (among q done) (entry_at store q) None ≡ cond (among q done || b) (entry_at store q) None) [
      | true ↦ λ same. absent (among q done) _ (nothing same) ∙ sym (absent (among q done || true) _ (nothing same))
      | false ↦ λ other. ap (λ b. cond b (entry_at store q) None) (sym (or_false (among q done)))
    ] refl
    ∙ sym (values-more store done k q) in
    get-by (values_at store done) keys q
    ∙ ap (λ (x : Option Bytes). cond (among q keys) (Some x) None) alike
    ∙ sym (get-by (values_at store (done ++ k ∷ [])) keys q))

-- a key with one
pub one-answered : (store : Cache) (done keys : List Bytes) (k v : Bytes) → among k keys ≡ true → entry_at store k ≡ Some v
    → answers_with (answers_by (values_at store done) keys) k v ≡ answers_by (values_at store (done ++ k ∷ [])) keys
one-answered store done keys k v there has =
    let m = answers_by (values_at store done) keys in
    let asked : is_asked m k ≡ true = ap (λ (o : Option (Option Bytes)). is_some o) (get-by (values_at store done) keys k ∙ ap (λ b. cond b (Some (values_at store done k)) None) there) in
    ap (λ b. cond b (insert m k (Some v)) m) asked
    ∙ same_map nat_list_cmp_total exact_bytes _ _ (λ q.
    get-insert nat_list_cmp_total m k (Some v) q
    ∙ ap (cond (eq_by_cmp key_cmp q k) (Some (Some v))) (get-by (values_at store done) keys q)
    ∙ elim (eq_by_cmp key_cmp q k) as (λ b. eq_by_cmp key_cmp q k ≡ b →
    cond b (Some (Some v)) (cond (among q keys) (Some (cond (among q done) (entry_at store q) None)) None)
    ≡ cond (among q keys) (Some (cond (among q done || b) (entry_at store q) None)) None) [
      | true ↦ λ same.
          let e = same_key q k same in
          sym (ap (λ b. cond b (Some (cond (among q done || true) (entry_at store q) None)) None) (ap (λ x. among x keys) e ∙ there)
          ∙ ap (λ b. Some (cond b (entry_at store q) None)) (or_true (among q done))
          ∙ ap Some (ap (entry_at store) e ∙ has))
      | false ↦ λ other. ap (λ b. cond (among q keys) (Some (cond b (entry_at store q) None)) None) (sym (or_false (among q done)))
    ] refl
    ∙ ap (λ (x : Option Bytes). cond (among q keys) (Some x) None) (sym (values-more store done k q))
    ∙ sym (get-by (values_at store (done ++ k ∷ [])) keys q))
