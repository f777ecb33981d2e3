use Rattle.jc_stripe.proofs.Laws.{begins_on, commits_on, withdraws_on, picks_up_on}
use Rattle.jc_stripe.proofs.phase_laws.grows.Goals as goal

pub returns : goal.returns
returns c = record { begins = begins_on; commits = commits_on; withdraws = withdraws_on; picks_up = picks_up_on }
