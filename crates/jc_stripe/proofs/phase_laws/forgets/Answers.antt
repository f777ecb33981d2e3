use Rattle.jc_stripe.proofs.Forgetting.{forgets}
use Rattle.jc_stripe.proofs.phase_laws.forgets.Goals as goal

pub returns : goal.returns
returns c = forgets
