use Rattle.std.proofs.Common.{◌≡◌, ◌++◌, List}
use Rattle.std.specs.FinMap as map
use Rattle.jc_model.specs.Cache.{Bytes}
use Rattle.jc_model.proofs.contents.Contents.of.Given as goal

-- the entries that the iterator is past are in
abbrev pub invariant-loop-key : goal.invariant-loop-key
invariant-loop-key l = (past : List (Bytes × Bytes)) × (l.key-iterator.iter.rest.now ++ past ≡ l.entries) × (l.contents ≡ map.from_entries past)
