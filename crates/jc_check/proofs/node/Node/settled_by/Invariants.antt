use Rattle.std.proofs.Common.{◌≡◌}
use Rattle.jc_check.specs.Nodes.{IsSettledBy, node_value}
use Rattle.jc_check.proofs.Marking.{AreMarkedBelow}
use Rattle.jc_check.proofs.node.Node.settled_by.Given as goal

abbrev pub invariant-loop-call : goal.invariant-loop-call
invariant-loop-call l =
    AreMarkedBelow (IsSettledBy l.rules l.calls (node_value l.self) l.fn.turn) l.self.settled.from l.marks.from l.marks.rest.items l.call
    × (l.marks.end ≡ l.end)
