-- A cache, and a store, as finite maps from keys to values, both seen as their bytes (JCache 1.1: a cache as a map).
--     Bytes          a key or a value, as the numbers of its bytes
--     Cache          a cache, and a store
--     entry_at       the value at a key, or none
--     with_entry     the map with this value at a key, or with none; no other key changes
--     key_cmp        how keys are compared: by their first byte that differs, otherwise by their length
--     cache_code     a code for caches, which is needed by a type whose model holds one
use Rattle.std.specs.Prelude.{ℕ, List, Option, None, Some}
use Rattle.std.specs.declared.cmp.Ordering.{Ordering}
use Rattle.std.specs.Ordering.{nat_cmp}
use Rattle.std.specs.Cmp.Lexicographic.{slice_cmp}
use Rattle.std.specs.FinMap.{FinMap, get, insert, remove, code}
use Rattle.std.specs.Coded.{Coded, coded_list, coded_ℕ}

abbrev pub Bytes : Type 0
Bytes = List ℕ

-- a cache, and a store
abbrev pub Cache : Type 0
Cache = FinMap (slice_cmp nat_cmp) Bytes

abbrev pub entry_at : Cache → Bytes → Option Bytes
entry_at cache key = get cache key

-- the cache with this entry at the key, or with none
abbrev pub with_entry : Cache → Bytes → Option Bytes → Cache
with_entry cache key None = remove cache key
with_entry cache key (Some value) = insert cache key value

-- how keys are compared
abbrev pub key_cmp : Bytes → Bytes → Ordering
key_cmp = slice_cmp nat_cmp

abbrev pub cache_code : Coded Cache
cache_code = code (coded_list coded_ℕ) (coded_list coded_ℕ)
