use Rattle.std.proofs.Common.{ℕ, ◌<◌, ◌≡◌, true}
use Rattle.jc_check.specs.Nodes.{IsSettled, must_at, node_value}
use Rattle.jc_check.proofs.node.Node.is_whole.Given as goal

abbrev pub invariant-loop-call : goal.invariant-loop-call
invariant-loop-call l = (k : ℕ) → k < l.call → must_at l.calls k ≡ true → IsSettled (node_value l.self) k
