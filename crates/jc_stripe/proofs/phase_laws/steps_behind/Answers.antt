use Rattle.jc_stripe.proofs.OwnPick.{steps_behind}
use Rattle.jc_stripe.proofs.phase_laws.steps_behind.Goals as goal

pub returns : goal.returns
returns c = steps_behind
