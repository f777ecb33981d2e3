use Rattle.std.proofs.Common.{◌+◌, sym, ◌∙◌}
use Rattle.jc_model.proofs.Order.{order_next, order_not}
use Rattle.jc_model.proofs.callers.is_in_order.Goals as goal

pub returns-then-not-does_follow_all : goal.returns-then-not-does_follow_all
returns-then-not-does_follow_all c =
    let next = order_next c.args.events.now c.loop-i.i c.index-events-i.result c.loop-i-test.true c.index-events-i.is c.loop-i.invariant in
    sym (order_not c.args.events.now (c.loop-i.i + 1) (next ∙ sym c.does_follow_all.ensures ∙ c.if-not-does_follow_all.true))

pub loop-i-preserved : goal.loop-i-preserved
loop-i-preserved c =
    order_next c.args.events.now c.loop-i.i c.index-events-i.result c.loop-i-test.true c.index-events-i.is c.loop-i.invariant
    ∙ sym c.does_follow_all.ensures ∙ c.if-not-does_follow_all.false
