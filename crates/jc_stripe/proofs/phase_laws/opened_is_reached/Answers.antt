use Rattle.jc_stripe.proofs.Tables.{reached_start}
use Rattle.jc_stripe.proofs.phase_laws.opened_is_reached.Goals as goal

pub returns : goal.returns
returns c = reached_start
