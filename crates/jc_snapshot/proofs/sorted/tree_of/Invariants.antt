use Rattle.std.proofs.Common.{◌≡◌, ◌++◌, List}
use Rattle.std.specs.FinMap as map
use Rattle.jc_snapshot.proofs.sorted.tree_of.Given as goal

-- the entries that the iterator is past are in
abbrev pub invariant-loop-key : goal.invariant-loop-key
invariant-loop-key g l =
    (past : List (g.row.K.Denot × g.row.V.Denot)) × (l.key-iterator.iter.rest.now ++ past ≡ l.entries) × (map.from_entries {R = g.K.Ord.cmp} l.tree.entries ≡ map.from_entries past)
