use Rattle.std.proofs.Common.{◌≡◌, take, true}
use Rattle.jc_model.specs.Legal.{in_order}
use Rattle.jc_model.proofs.callers.is_in_order.Given as goal

abbrev pub invariant-loop-i : goal.invariant-loop-i
invariant-loop-i l = in_order (take l.i l.events) ≡ true
