use Rattle.jc_stripe.proofs.Ending.{ended, given_back}
use Rattle.jc_stripe.proofs.Reaching.{reached_begins, reached_commits}
use Rattle.jc_stripe.proofs.Settling.{reached_invalidated, reached_invalidated_all, reached_swept}
use Rattle.jc_stripe.proofs.Tables.{reached_withdrawn, reached_picked}
use Rattle.jc_stripe.proofs.phase_laws.stays_reached.Goals as goal

pub returns : goal.returns
returns c = record {
  begins = reached_begins;
  commits = reached_commits;
  withdraws = reached_withdrawn;
  picks_up = reached_picked;
  ends = λ old new r out done reached h. (ended old new r out done reached h).quiet.reached;
  gives_back = λ old new r reached h. (given_back old new r reached h).2.reached;
  invalidates = reached_invalidated;
  invalidates_all = reached_invalidated_all;
  sweeps = reached_swept;
}
