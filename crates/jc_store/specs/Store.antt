-- Reads and changes of many keys of a store (`CacheLoader.loadAll`, `CacheWriter.writeAll`, `CacheWriter.deleteAll`).
--     answers_from    for each of these keys, the store's value at it, or none
--     with_entries    the store with these entries written, one after another
--     without_keys    the store with these keys deleted, one after another
--     WritesAll       a prefix of the entries is written, and the rest of them is left
use Rattle.std.specs.Prelude.{◌≡◌, ◌++◌, List, [], ◌∷◌, map, None, Some}
use Rattle.std.specs.FinMap.{from_entries}
use Rattle.jc_model.specs.Cache.{Bytes, Cache, entry_at, with_entry}
use Rattle.jc_outside.specs.Answers.{AnswersByKey}

abbrev pub answers_from : Cache → List Bytes → AnswersByKey
answers_from store keys = from_entries (map (λ key. (key, entry_at store key)) keys)

abbrev pub with_entries : Cache → List (Bytes × Bytes) → Cache
with_entries store [] = store
with_entries store (e ∷ es) = with_entries (with_entry store e.0 (Some e.1)) es

abbrev pub without_keys : Cache → List Bytes → Cache
without_keys store [] = store
without_keys store (key ∷ keys) = without_keys (with_entry store key None) keys

abbrev pub WritesAll : Cache → List (Bytes × Bytes) → List (Bytes × Bytes) → Cache → Type 0
WritesAll store entries left new =
    (written : List (Bytes × Bytes)) × (entries ≡ written ++ left) × (new ≡ with_entries store written)
