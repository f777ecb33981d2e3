use Rattle.jc_stripe.proofs.WholeCalls.{caller_numbers}
use Rattle.jc_stripe.proofs.phase_laws.caller_numbers.Goals as goal

pub returns : goal.returns
returns c = caller_numbers
