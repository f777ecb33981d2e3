use Rattle.jc_world.proofs.Common.{List, ◌==◌, ap, ◌∙◌, pointwise, lookup, Task}
use Rattle.jc_world.proofs.Found.{found_new}
use Rattle.jc_world.proofs.tasks.add_each.Goals as goal

pub add_one-requires-clause-new : goal.add_one-requires-clause-new
add_one-requires-clause-new c =
    ap (λ (ts : List Task). lookup (pointwise ◌==◌ c.key-item.result) ts) c.loop-key.invariant.0
    ∙ found_new c.args.ops.now.entries c.args.op.now c.args.keys.now c.loop-key.key-index c.key-item.result c.requires.new c.requires.distinct c.loop-key-test.true c.key-item.is
