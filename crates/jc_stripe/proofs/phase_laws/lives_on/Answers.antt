use Rattle.jc_stripe.proofs.Renewing.{lives_on}
use Rattle.jc_stripe.proofs.phase_laws.lives_on.Goals as goal

pub returns : goal.returns
returns c = lives_on
