use Rattle.jc_world.proofs.Common.{◌≡◌, List, ◌++◌, Bytes, entry_at, key_cmp, or_else}
use Rattle.std.specs.FinMap as map
use Rattle.jc_world.proofs.audit.add_entries.Given as goal

-- the entries that the iterator is past are in
abbrev pub invariant-loop-key : goal.invariant-loop-key
invariant-loop-key l = (past : List (Bytes × Bytes)) × (l.key-iterator.iter.rest.now ++ past ≡ l.entries) × ((key : Bytes) → entry_at l.all key ≡ or_else (map.find key_cmp key past) (entry_at l.fn.all key))
