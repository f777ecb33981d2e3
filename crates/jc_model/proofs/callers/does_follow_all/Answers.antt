use Rattle.std.proofs.Common.{sym, ◌∙◌}
use Rattle.jc_model.proofs.Order.{ends_lower, search_continues, before_order}
use Rattle.jc_model.proofs.callers.does_follow_all.Goals as goal

pub returns-then-comes_before : goal.returns-then-comes_before
returns-then-comes_before c =
    let i = c.loop-last.invariant in
    sym (ends_lower _ _ c.in-Some.last.now c.args.event.now c.in-Some.ensures.cases.0 i.order (sym c.comes_before.ensures ∙ c.if-comes_before.true)) ∙ i.same

pub loop-last-preserved : goal.loop-last-preserved
loop-last-preserved c =
    let i = c.loop-last.invariant in
    let is = c.in-Some.ensures.cases.0 in
    record {
      order = before_order _ _ c.in-Some.last.now is i.order;
      same = search_continues _ _ c.in-Some.last.now c.args.event.now is (sym c.does_follow.ensures ∙ c.if-not-does_follow.false) ∙ i.same;
    }
