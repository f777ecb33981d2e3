use Rattle.std.proofs.Common.{ℕ, take}
use Rattle.jc_check.specs.Nodes.{HasLanded}
use Rattle.jc_check.proofs.node.are_landed.Given as goal

abbrev pub invariant-loop-call : goal.invariant-loop-call
invariant-loop-call l = (call : ℕ) → HasLanded (take l.call-index l.some) call → HasLanded l.landed call
