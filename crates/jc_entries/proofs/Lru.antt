-- The words of `lru` and of std's maps, in those of entries in order of use.
use Rattle.std.proofs.Common.{◌≡◌, ℕ, ◌-◌, ◌<◌, ◌≤◌, ◌==◌, List, [], ◌∷◌, Bool, true, false, cond, not, ◌||◌, nat_lt, take, Option, Some, None, is_some, is_none, IsSome, ap, refl, sym, ◌∙◌, arith}
use Rattle.std.specs.Option.{option_map, option_map_or}
use Rattle.std.specs.Map.{lookup, lookup_entry, remove_entry}
use Rattle.std.specs.Cmp.Lexicographic.{texts_ties, pointwise}
use Rattle.std.specs.FinMap as finite
use Rattle.std.proofs.lemmas.Bool.{ltb-true, and_parts}
use Rattle.std.proofs.lemmas.List.{take_all}
use Rattle.lru.specs.LruCache.{LruCache, lru_cache, promoted, put_entries}
use Rattle.jc_model.specs.Cache.{Bytes, key_cmp}
use Rattle.jc_model.specs.Listed.{has_distinct_keys, others}
use Rattle.jc_model.proofs.CallerLemmas.{same_key, none_is}
use Rattle.jc_entries.specs.ByUse.{ByUse, IsValidByUse, after_touch}
use Rattle.jc_entries.specs.Inserting.{has_room_for}
use Rattle.jc_entries.proofs.CallerLemmas.{others-missing}

-- the entries of a cache
abbrev pub by_use : LruCache Bytes Bytes → ByUse
by_use cache = record { capacity = cache.cap; list = cache.entries }

-- `==` of keys
abbrev pub equal_to : Bytes → Bytes → Bool
equal_to key = pointwise ◌==◌ key

-- what is equal by `==` is one key
equal_same : (key k : Bytes) → equal_to key k ≡ true → key ≡ k
equal_same key k h = same_key key k (sym (texts_ties key k) ∙ h)

-- a look-up is the search of a finite map
pub lookup-find : (key : Bytes) (entries : List (Bytes × Bytes)) → lookup (equal_to key) entries ≡ finite.find key_cmp key entries
lookup-find key [] = refl
lookup-find key (e ∷ es) =
    ap (cond (equal_to key e.0) (Some e.1)) (lookup-find key es) ∙ ap (λ b. cond b (Some e.1) (finite.find key_cmp key es)) (texts_ties key e.0)

found_pair : (b : Bool) (key : Bytes) (e : Bytes × Bytes) (o : Option (Bytes × Bytes)) (f : Option Bytes) → (b ≡ true → key ≡ e.0) → o ≡ option_map (λ value. (key, value)) f
    → cond b (Some e) o ≡ option_map (λ value. (key, value)) (cond b (Some e.1) f)
found_pair true key e o f same h = ap (λ k. Some (k, e.1)) (sym (same refl))
found_pair false key e o f same h = h

-- the entry that it finds has the key
pub lookup_entry-find : (key : Bytes) (entries : List (Bytes × Bytes)) → lookup_entry (equal_to key) entries ≡ option_map (λ value. (key, value)) (finite.find key_cmp key entries)
lookup_entry-find key [] = refl
lookup_entry-find key (e ∷ es) =
    found_pair (equal_to key e.0) key e _ _ (equal_same key e.0) (lookup_entry-find key es)
    ∙ ap (λ b. option_map (λ value. (key, value)) (cond b (Some e.1) (finite.find key_cmp key es))) (texts_ties key e.0)

first_gone : (b : Bool) (e : Bytes × Bytes) (es rest kept : List (Bytes × Bytes)) → (b ≡ true → es ≡ kept) → rest ≡ kept → cond b es (e ∷ rest) ≡ cond (not b) (e ∷ kept) kept
first_gone true e es rest kept same h = same refl
first_gone false e es rest kept same h = ap (λ xs. e ∷ xs) h

-- to take the first of a key is to take all of it, as keys are distinct
pub remove_entry-others : (key : Bytes) (entries : List (Bytes × Bytes)) → has_distinct_keys entries ≡ true → remove_entry (equal_to key) entries ≡ others key entries
remove_entry-others key [] h = refl
remove_entry-others key (e ∷ es) h =
    let parts = and_parts (is_none (finite.find key_cmp e.0 es)) (has_distinct_keys es) h in
    first_gone (equal_to key e.0) e es _ (others key es)
    (λ t. sym (others-missing key es (ap (λ k. finite.find key_cmp k es) (equal_same key e.0 t) ∙ none_is _ parts.0)))
    (remove_entry-others key es parts.1)

with_found : (key : Bytes) (f : Option Bytes) (entries rest kept : List (Bytes × Bytes)) → rest ≡ kept
    → option_map_or (λ e. e ∷ rest) (option_map (λ value. (key, value)) f) entries ≡ option_map_or (λ value. (key, value) ∷ kept) f entries
with_found key None entries rest kept h = refl
with_found key (Some value) entries rest kept h = ap (λ xs. (key, value) ∷ xs) h

-- to promote a key is to touch it
pub by_use-promoted : (cache new : LruCache Bytes Bytes) (key : Bytes) → IsValidByUse (by_use cache) → new ≡ lru_cache (promoted (equal_to key) cache.entries) cache.cap
    → by_use new ≡ record (by_use cache) { list = after_touch key cache.entries }
by_use-promoted cache new key h e =
    ap by_use (e ∙ ap (λ es. lru_cache es cache.cap)
    (ap (λ o. option_map_or (λ e. e ∷ remove_entry (equal_to key) cache.entries) o cache.entries) (lookup_entry-find key cache.entries)
    ∙ with_found key (finite.find key_cmp key cache.entries) cache.entries _ _ (remove_entry-others key cache.entries h.distinct)))

-- to take an entry out leaves those of the other keys
pub by_use-removed : (cache new : LruCache Bytes Bytes) (key : Bytes) → IsValidByUse (by_use cache) → new ≡ lru_cache (remove_entry (equal_to key) cache.entries) cache.cap
    → by_use new ≡ record (by_use cache) { list = others key cache.entries }
by_use-removed cache new key h e = ap by_use (e ∙ ap (λ es. lru_cache es cache.cap) (remove_entry-others key cache.entries h.distinct))

put_with : (key value : Bytes) (f : Option Bytes) (rest all kept : List (Bytes × Bytes)) → rest ≡ kept → (f ≡ None → all ≡ kept)
    → option_map_or (λ (e : Bytes × Bytes). (e.0, value) ∷ rest) (option_map (λ v. (key, v)) f) ((key, value) ∷ all) ≡ (key, value) ∷ kept
put_with key value None rest all kept found missing = ap (λ xs. (key, value) ∷ xs) (missing refl)
put_with key value (Some v) rest all kept found missing = ap (λ xs. (key, value) ∷ xs) found

shorter : (f : Option Bytes) (n m : ℕ) → f ≡ None → (is_some f || nat_lt n m) ≡ true → n ≤ m - 1
shorter None n m none room = let few : n < m = ltb-true n m room in omega arith
shorter (Some v) n m none room = cc

-- to put an entry that there is room for makes it the first
pub by_use-put : (cache new : LruCache Bytes Bytes) (key value : Bytes) → IsValidByUse (by_use cache) → has_room_for key (by_use cache) ≡ true
    → new ≡ lru_cache (put_entries (pointwise ◌==◌) cache key value) cache.cap → by_use new ≡ record (by_use cache) { list = (key, value) ∷ others key cache.entries }
by_use-put cache new key value h room e =
    ap by_use (e ∙ ap (λ es. lru_cache es cache.cap)
    (ap (λ o. option_map_or (λ (e : Bytes × Bytes). (e.0, value) ∷ remove_entry (equal_to key) cache.entries) o ((key, value) ∷ take (cache.cap - 1) cache.entries)) (lookup_entry-find key cache.entries)
    ∙ put_with key value (finite.find key_cmp key cache.entries) _ _ _ (remove_entry-others key cache.entries h.distinct)
    (λ none. take_all _ cache.entries (shorter _ _ _ none room) ∙ sym (others-missing key cache.entries none))))

none_unless : (o : Option Bytes) → (IsSome o → ⊥) → o ≡ None
none_unless None h = refl
none_unless (Some x) h = absurd (h refl)

-- what a look-up can't find is missing
pub missing : (key : Bytes) (entries : List (Bytes × Bytes)) → (IsSome (lookup (equal_to key) entries) → ⊥) → finite.find key_cmp key entries ≡ None
missing key entries h = sym (lookup-find key entries) ∙ none_unless (lookup (equal_to key) entries) h
