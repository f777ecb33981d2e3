use Rattle.jc_stripe.proofs.Laws.{begins_keeps, commits_keeps, withdraws_keeps, picks_up_keeps}
use Rattle.jc_stripe.proofs.phase_laws.keeps_reserved.Goals as goal

pub returns : goal.returns
returns c = record { begins = begins_keeps; commits = commits_keeps; withdraws = withdraws_keeps; picks_up = picks_up_keeps }
