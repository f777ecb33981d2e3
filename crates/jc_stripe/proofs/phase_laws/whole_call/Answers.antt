use Rattle.jc_stripe.proofs.WholeCalls.{whole_call}
use Rattle.jc_stripe.proofs.phase_laws.whole_call.Goals as goal

pub returns : goal.returns
returns c = whole_call
