use Rattle.std.proofs.Common.{take}
use Rattle.jc_check.specs.Nodes.{HasLanded}
use Rattle.jc_check.proofs.node.has_landed.Given as goal

abbrev pub invariant-loop-other : goal.invariant-loop-other
invariant-loop-other l = HasLanded (take l.other-index l.landed) l.fn.call → ⊥
