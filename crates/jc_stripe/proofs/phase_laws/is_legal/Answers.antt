use Rattle.jc_stripe.proofs.Reaching.{reached_legal}
use Rattle.jc_stripe.proofs.phase_laws.is_legal.Goals as goal

pub returns : goal.returns
returns c = reached_legal
