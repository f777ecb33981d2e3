use Rattle.jc_check.proofs.Known.{LeadsOn}
use Rattle.jc_check.proofs.states.States.path_to.Given as goal

abbrev pub invariant-loop-at : goal.invariant-loop-at
invariant-loop-at l = LeadsOn l.rules l.calls l.self l.at l.turns.items l.fn.place

abbrev pub decreases-loop-at : goal.decreases-loop-at
decreases-loop-at l = l.at
