use Rattle.jc_world.proofs.Common.{◌∙◌}
use Rattle.jc_world.proofs.TaskLists.{at_each-more}
use Rattle.jc_world.proofs.tasks.put_each.Goals as goal

pub loop-key-preserved : goal.loop-key-preserved
loop-key-preserved c =
    c.in_ok-insert.ensures.entries
    ∙ at_each-more c.loop-key.ops c.args.op.now c.args.keys.now c.loop-key.key-index c.key-item.result c.requires.distinct c.loop-key-test.true c.key-item.is c.loop-key.invariant
