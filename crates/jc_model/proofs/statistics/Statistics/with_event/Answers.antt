use Rattle.std.proofs.Common.{◌∙◌, ap, sym}
use Rattle.jc_model.specs.Statistics.{with_event}
use Rattle.jc_model.proofs.statistics.Statistics.with_event.Goals as goal

pub returns-in-Step : goal.returns-in-Step
returns-in-Step c = c.with_step.ensures c.in-Step.caller c.in-Step.key c.in-Step.shared_with ∙ ap (with_event c.args.self.now c.args.found) (sym c.in-Step.is)
