use Rattle.std.proofs.Common.{ℕ, ◌<◌}
use Rattle.jc_check.specs.Nodes.{IsNoMore, node_value}
use Rattle.jc_check.proofs.node.Node.are_no_more.Given as goal

abbrev pub invariant-loop-call : goal.invariant-loop-call
invariant-loop-call l = (k : ℕ) → k < l.call → IsNoMore l.calls (node_value l.self) (node_value l.other) k
