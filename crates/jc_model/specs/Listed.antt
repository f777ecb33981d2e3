-- A cache kept as a list of entries.
--     has_distinct_keys   whether no key is in the list twice
--     others              the entries of the other keys
--     with_entry_first    the entries with one in front of the others, or with none of the key
use Rattle.std.specs.Prelude.{List, [], ◌∷◌, Bool, true, not, ◌==◌, ◌&&◌, Option, None, Some, is_none, filter}
use Rattle.std.specs.Cmp.Lexicographic.{pointwise}
use Rattle.std.specs.FinMap.{find}
use Rattle.jc_model.specs.Cache.{Bytes, key_cmp}

-- whether no key is in the list twice
abbrev pub has_distinct_keys : List (Bytes × Bytes) → Bool
has_distinct_keys [] = true
has_distinct_keys (entry ∷ entries) = is_none (find key_cmp entry.0 entries) && has_distinct_keys entries

-- the entries of the other keys
abbrev pub others : Bytes → List (Bytes × Bytes) → List (Bytes × Bytes)
others key entries = filter (λ entry. not (pointwise ◌==◌ key entry.0)) entries

-- the entries with this one in front of the others, or with none of the key
abbrev pub with_entry_first : Bytes → Option Bytes → List (Bytes × Bytes) → List (Bytes × Bytes)
with_entry_first key None entries = others key entries
with_entry_first key (Some value) entries = (key, value) ∷ others key entries
