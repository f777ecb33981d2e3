use Rattle.jc_check.proofs.Ordering.{AreOrderedBelow}
use Rattle.jc_check.proofs.order.are_ordered.Given as goal

abbrev pub invariant-loop-at : goal.invariant-loop-at
invariant-loop-at l = AreOrderedBelow l.calls l.at l.latest
