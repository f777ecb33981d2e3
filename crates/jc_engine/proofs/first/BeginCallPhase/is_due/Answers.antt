use Rattle.jc_engine.proofs.Common.{◌∙◌, sym}
use Rattle.jc_engine.proofs.first.BeginCallPhase.is_due.Goals as goal

pub returns : goal.returns
returns c = (λ so. sym c.can_start.ensures ∙ so, λ so. c.can_start.ensures ∙ so)
