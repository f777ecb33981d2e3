use Rattle.jc_check.specs.Nodes.{node_value}
use Rattle.jc_check.proofs.Ordering.{IsUrgent}
use Rattle.jc_check.proofs.order.barred_from.Given as goal

abbrev pub invariant-loop-call : goal.invariant-loop-call
invariant-loop-call l = IsUrgent l.calls (node_value l.node) l.call l.urgent
