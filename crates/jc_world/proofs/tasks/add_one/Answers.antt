use Rattle.jc_world.proofs.Common.{◌==◌, Some, ◌∙◌, pointwise, insert_entry-new}
use Rattle.jc_world.proofs.tasks.add_one.Goals as goal

pub returns-clause-ops : goal.returns-clause-ops
returns-clause-ops c = c.in-Ok.ensures.entries ∙ insert_entry-new (pointwise ◌==◌) c.args.ops.now c.args.key.now (Some c.args.op.now) c.requires.new
