use Rattle.jc_stripe.proofs.WholeCalls.{joins_loads}
use Rattle.jc_stripe.proofs.phase_laws.joins_only_loads.Goals as goal

pub returns : goal.returns
returns c = joins_loads
