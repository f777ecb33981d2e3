use Rattle.std.proofs.Common.{◌≡◌, ◌++◌}
use Rattle.jc_world.proofs.joined.list_joins.Given as goal

abbrev pub invariant-loop-at : goal.invariant-loop-at
invariant-loop-at l = l.list.items ++ l.at-iterator ≡ l.joins.entries
