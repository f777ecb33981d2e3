use Rattle.std.proofs.Common.{ℕ, ◌<◌}
use Rattle.jc_check.specs.Nodes.{node_value}
use Rattle.jc_check.specs.States.{IsNodeAt}
use Rattle.jc_check.proofs.states.States.is_anywhere.Given as goal

abbrev pub invariant-loop-place : goal.invariant-loop-place
invariant-loop-place l = (k : ℕ) → k < l.place → IsNodeAt l.self.list.items k (node_value l.node) → ⊥
