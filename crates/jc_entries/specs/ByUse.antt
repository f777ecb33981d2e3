-- The entries of one stripe, in order of use (LRU), as callers see them. Nothing here says how the entries are stored.
--     ByUse             the most entries that may be kept, and the entries, the most recently used first
--     IsValidByUse      the keys are distinct, no more entries are kept than may be, and the bound is one that a stripe may have
--     after_touch       the entries with this key's moved to the front, or as they are if the key has none
--     is_pinned         whether a key is among the pinned ones, whose entries can't be evicted
--     lru_victim        the least recently used key that isn't pinned: the one that is evicted if there is no room
--     after_eviction    the entries without the one that was evicted, if one was
use Rattle.std.specs.Prelude.{ℕ, ◌<◌, ◌≤◌, ◌==◌, Bool, not, IsTrue, Option, None, Some, List, ◌∷◌, length, reverse, find}
use Rattle.std.specs.Option.{option_map_or}
use Rattle.std.specs.List.{list_any}
use Rattle.std.specs.Map.{keys_of}
use Rattle.std.specs.Cmp.Lexicographic.{pointwise}
use Rattle.std.specs.FinMap as finite
use Rattle.jc_types.specs.declared.limits.TheConstants.{CAPACITY_MAX}
use Rattle.jc_model.specs.Cache.{Bytes, key_cmp}
use Rattle.jc_model.specs.Listed.{has_distinct_keys, others}

-- the most entries that may be kept, and the entries, the most recently used first
pub record ByUse : Type 0 where
  pub capacity : ℕ
  pub list : List (Bytes × Bytes)

-- the keys are distinct, no more entries are kept than may be, and the bound is one that a stripe may have
pub record IsValidByUse (entries : ByUse) : Type 0 where
  pub distinct : IsTrue (has_distinct_keys entries.list)
  pub bounded : length entries.list ≤ entries.capacity
  pub least : 0 < entries.capacity
  pub most : entries.capacity ≤ CAPACITY_MAX

-- the entries with this key's moved to the front, or as they are if the key has none
abbrev pub after_touch : Bytes → List (Bytes × Bytes) → List (Bytes × Bytes)
after_touch key entries = option_map_or (λ value. (key, value) ∷ others key entries) (finite.find key_cmp key entries) entries

-- whether a key is among the pinned ones, whose entries can't be evicted
abbrev pub is_pinned : List Bytes → Bytes → Bool
is_pinned pinned key = list_any (λ other. pointwise ◌==◌ other key) pinned

-- the least recently used key that isn't pinned, so the last one of those in the list: it is evicted if there is no room
abbrev pub lru_victim : List (Bytes × Bytes) → List Bytes → Option Bytes
lru_victim entries pinned = find (λ key. not (is_pinned pinned key)) (keys_of (reverse entries))

-- the entries without the one that was evicted, if one was
abbrev pub after_eviction : Option Bytes → List (Bytes × Bytes) → List (Bytes × Bytes)
after_eviction None entries = entries
after_eviction (Some key) entries = others key entries
