use Rattle.jc_inflight.proofs.Ending.{HasTold}
use Rattle.jc_inflight.proofs.joiners.retry_each.Given as goal

abbrev pub invariant-loop-joiner : goal.invariant-loop-joiner
invariant-loop-joiner l = HasTold l.load l.count l.initial.joiners l.joiners l.joiner-index
