use Rattle.std.proofs.Common.{◌≡◌, ◌++◌}
use Rattle.jc_snapshot.proofs.sorted.list_of.Given as goal

-- what is in and what the iterator has left are the entries
abbrev pub invariant-loop-key : goal.invariant-loop-key
invariant-loop-key g l = l.list.items ++ l.key-iterator ≡ l.tree.entries
