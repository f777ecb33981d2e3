use Rattle.jc_explore.proofs.Runs.{plays-more}
use Rattle.jc_explore.proofs.search.replay.Goals as goal

pub loop-step-preserved : goal.loop-step-preserved
loop-step-preserved c = plays-more c.args.program.now _ _ _ c.args.schedule.now c.loop-step.step-index _ c.loop-step-test.true c.loop-step.invariant (c.in_ok-step.ensures.moved c.if-not-branch.false)
