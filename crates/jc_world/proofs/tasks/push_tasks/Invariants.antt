use Rattle.std.proofs.Common.{◌≡◌, ◌++◌}
use Rattle.jc_world.proofs.tasks.push_tasks.Given as goal

abbrev pub invariant-loop-key : goal.invariant-loop-key
invariant-loop-key l = l.out.items ++ l.key-iterator ≡ l.fn.out.items ++ l.ops.entries
