use Rattle.std.proofs.Common.{drop, ◌↔◌}
use Rattle.jc_check.specs.Explains.{Explains}
use Rattle.jc_check.specs.Nodes.{node_value}
use Rattle.jc_check.proofs.Continuing.{Continues}
use Rattle.jc_check.proofs.explaining.does_explain.Given as goal

abbrev pub invariant-loop-turn : goal.invariant-loop-turn
invariant-loop-turn l =
    Continues l.rules l.calls (node_value l.node) (drop l.turn-index l.turns) ↔ Explains l.rules l.calls l.opening l.turns
