use Rattle.jc_inflight.proofs.Ending.{HasAnswered}
use Rattle.jc_inflight.proofs.joiners.answer_each.Given as goal

abbrev pub invariant-loop-joiner : goal.invariant-loop-joiner
invariant-loop-joiner l = HasAnswered l.load l.step l.place l.initial.joiners l.joiners l.joiner-index
