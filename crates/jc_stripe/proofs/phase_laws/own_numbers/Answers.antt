use Rattle.jc_stripe.proofs.OwnNumbers.{own_numbers}
use Rattle.jc_stripe.proofs.phase_laws.own_numbers.Goals as goal

pub returns : goal.returns
returns c = own_numbers
