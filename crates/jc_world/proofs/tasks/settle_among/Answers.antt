use Rattle.jc_world.proofs.Common.{◌≡◌, ◌-◌, List, length, None, sym, ap, ◌∙◌, arith, Task, open_in, ◌==◌, pointwise, set_value}
use Rattle.jc_types.proofs.CallerLemmas.{none_from}
use Rattle.jc_world.proofs.TaskLists.{there_at, absent_same, put_in_place, count_settled}
use Rattle.jc_world.proofs.tasks.settle_among.Goals as goal

pub returns-then-not-is_open_among-clause-ops : goal.returns-then-not-is_open_among-clause-ops
returns-then-not-is_open_among-clause-ops c = sym (absent_same c.args.key.now c.args.ops.now.entries (none_from _ (sym c.is_open_among.ensures ∙ c.if-not-is_open_among.true)))

pub overflow_sub-count : goal.overflow_sub-count
overflow_sub-count c =
    let fewer = count_settled c.args.key.now c.args.ops.now.entries (sym c.is_open_among.ensures ∙ c.if-not-is_open_among.false) in
    let counted = c.requires.counted in
    omega (arith, fewer, counted)

pub returns-clause-ops : goal.returns-clause-ops
returns-clause-ops c = c.in-Ok.ensures.entries ∙ put_in_place c.args.key.now c.args.ops.now.entries None (there_at c.args.key.now c.args.ops.now.entries (sym c.is_open_among.ensures ∙ c.if-not-is_open_among.false))

pub returns-clause-counted : goal.returns-clause-counted
returns-clause-counted c =
    let there = sym c.is_open_among.ensures ∙ c.if-not-is_open_among.false in
    let settled = c.in-Ok.ensures.entries ∙ put_in_place c.args.key.now c.args.ops.now.entries None (there_at c.args.key.now c.args.ops.now.entries there) in
    let fewer = count_settled c.args.key.now c.args.ops.now.entries there in
    let counted = c.requires.counted in
    let rest : c.args.count.now - 1 ≡ length (open_in (set_value (pointwise ◌==◌ c.args.key.now) c.args.ops.now.entries None)) = omega (arith, fewer, counted) in
    rest ∙ ap (λ (ts : List Task). length (open_in ts)) (sym settled)
