use Rattle.std.proofs.Common.{ℕ, ◌<◌}
use Rattle.jc_check.specs.Nodes.{IsLost, node_value}
use Rattle.jc_check.proofs.node.Node.keeps.Given as goal

abbrev pub invariant-loop-call : goal.invariant-loop-call
invariant-loop-call l = (k : ℕ) → k < l.call → IsLost l.rules l.calls (node_value l.self) l.fn.turn k → ⊥
