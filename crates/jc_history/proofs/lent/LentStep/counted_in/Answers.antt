use Rattle.std.proofs.Common.{◌∙◌, ap}
use Rattle.jc_model.specs.Statistics.{with_event}
use Rattle.jc_history.proofs.lent.LentStep.counted_in.Goals as goal

pub returns : goal.returns
returns c =
    let step = c.self.inside in
    c.with_step.ensures step.caller.now step.key.now step.shared_with.now ∙ ap (with_event c.args.statistics.now c.args.found) c.self.view_is
