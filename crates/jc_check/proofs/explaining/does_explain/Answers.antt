use Rattle.std.proofs.Common.{rules}
use Rattle.jc_check.specs.Nodes.{node_value}
use Rattle.jc_check.proofs.Orders.{drop-end, explaining-first, explaining-last, explaining-never, explaining-next}
use Rattle.jc_check.proofs.explaining.does_explain.Goals as goal

pub loop-turn-init : goal.loop-turn-init
loop-turn-init c =
    explaining-first c.args.rules.now c.args.calls.now c.args.opening.now c.args.turns.now (node_value c.opening-node.result) c.opening-node.ensures

pub returns-in-None : goal.returns-in-None
returns-in-None c = (
  λ h. absurd (search (rules, h)),
  λ h. absurd (explaining-never c.args.rules.now c.args.calls.now c.args.opening.now c.args.turns.now (node_value c.loop-turn.node) c.loop-turn.turn-index _
      c.loop-turn-test.true c.loop-turn.invariant c.in-None.ensures.none h),
)

pub loop-turn-preserved : goal.loop-turn-preserved
loop-turn-preserved c =
    explaining-next c.args.rules.now c.args.calls.now c.args.opening.now c.args.turns.now (node_value c.loop-turn.node) (node_value c.in_ok-node-in-Some.node)
    c.loop-turn.turn-index _ c.loop-turn-test.true c.loop-turn.invariant c.in_ok-node-in-Some.ensures

pub returns : goal.returns
returns c =
    let last = explaining-last c.args.rules.now c.args.calls.now c.args.opening.now c.args.turns.now _ (node_value c.loop-turn.node)
    (drop-end c.loop-turn.turn-index c.args.turns.now c.loop-turn-test.false) c.loop-turn.invariant in
    (λ h. last.0 (c.is_whole.ensures.0 h), λ h. c.is_whole.ensures.1 (last.1 h))
