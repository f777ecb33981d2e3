use Rattle.jc_world.proofs.Common.{◌≡◌, ◌+◌, ◌≤◌, ◌++◌, length, take, spare, at_each}
use Rattle.jc_world.proofs.tasks.add_each.Given as goal

abbrev pub invariant-loop-key : goal.invariant-loop-key
invariant-loop-key l = (l.ops.entries ≡ l.initial.ops.entries ++ at_each l.op (take l.key-index l.keys)) × (length l.keys ≤ spare l.ops + l.key-index)
