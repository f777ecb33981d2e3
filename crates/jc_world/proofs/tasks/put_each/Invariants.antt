use Rattle.jc_world.proofs.Common.{◌≡◌, take, at_each}
use Rattle.jc_world.proofs.tasks.put_each.Given as goal

abbrev pub invariant-loop-key : goal.invariant-loop-key
invariant-loop-key l = l.ops.entries ≡ at_each l.op (take l.key-index l.keys)
