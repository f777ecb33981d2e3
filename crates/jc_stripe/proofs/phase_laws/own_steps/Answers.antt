use Rattle.jc_stripe.proofs.Own.{own_left}
use Rattle.jc_stripe.proofs.phase_laws.own_steps.Goals as goal

pub returns : goal.returns
returns c = own_left
