use Rattle.std.proofs.Common.{take}
use Rattle.jc_check.specs.Nodes.{IsAmong, NodeValue}
use Rattle.jc_check.specs.Reasons.{IsForeseen, IsReady}
use Rattle.jc_check.specs.States.{node_values}
use Rattle.jc_check.proofs.reasons.spots_at.Given as goal

abbrev pub invariant-loop-node : goal.invariant-loop-node
invariant-loop-node l =
    (n : NodeValue) → IsAmong (node_values (take l.node-index l.states.list.items)) n → IsReady l.rules l.calls n l.fn.call
    → IsForeseen l.rules l.calls l.fn.call l.spots.items n.spot
