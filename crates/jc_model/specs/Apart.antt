-- Two lists of entries that have no key in common.
--     keys_apart    whether no key is in both lists
use Rattle.std.specs.Prelude.{List, Bool, is_none}
use Rattle.std.specs.List.{list_all}
use Rattle.std.specs.FinMap.{find}
use Rattle.jc_model.specs.Cache.{Bytes, key_cmp}

-- whether no key is in both lists
abbrev pub keys_apart : List (Bytes × Bytes) → List (Bytes × Bytes) → Bool
keys_apart entries others = list_all (λ entry. is_none (find key_cmp entry.0 others)) entries
