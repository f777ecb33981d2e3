use Rattle.jc_stripe.proofs.Uniform.{one_uniform}
use Rattle.jc_stripe.proofs.phase_laws.is_uniform.Goals as goal

pub returns : goal.returns
returns c = one_uniform
