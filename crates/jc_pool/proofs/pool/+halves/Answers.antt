use Rattle.std.proofs.Common.{rules}
use Rattle.jc_pool.proofs.Shares.{alone_can, begin_first, begin_rest, both_ended, one_ended}
use Rattle.jc_pool.proofs.pool.+halves.Goals as goal

pub work_in_halves-join_mut-requires-after_bounds : goal.work_in_halves-join_mut-requires-after_bounds
work_in_halves-join_mut-requires-after_bounds g t c κs within =
    let off = c.split-other.ensures in
    let first = begin_first g.W.WorkWith.did g.W.WorkWith.job g.W.WorkWith.can_do g.W.WorkWith.does c.args.context.counter.now c.args.claimer.now c.split-other.new.claimer c.args.first.now c.args.rest.now c.args.first_tools.now c.args.rest_tools.now
    c.requires off.counter.0.0 off.claims.0 in
    let rest = begin_rest g.W.WorkWith.did g.W.WorkWith.job g.W.WorkWith.can_do g.W.WorkWith.does c.args.context.counter.now c.args.claimer.now c.split-other.result c.args.first.now c.args.rest.now c.args.first_tools.now c.args.rest_tools.now
    c.requires off.counter.1.0 off.claims.1 in
    search rules

pub work_in_halves-returns : goal.work_in_halves-returns
work_in_halves-returns g t c = search (rules, both_ended)

pub work_side_by_side-work-requires-clause-able : goal.work_side_by_side-work-requires-clause-able
work_side_by_side-work-requires-clause-able g t c =
    alone_can g.W.WorkWith.did g.W.WorkWith.job g.W.WorkWith.can_do g.W.WorkWith.does c.args.counter.now c.args.workers.now _ c.args.tools.now _ c.args.counter.now.1.pieces
    c.if-workers-eq1.true c.requires.tool_each c.requires.able

pub work_side_by_side-returns-then-workers-eq1 : goal.work_side_by_side-returns-then-workers-eq1
work_side_by_side-returns-then-workers-eq1 g t c =
    one_ended g.W.WorkWith.did g.W.WorkWith.job g.W.WorkWith.can_do g.W.WorkWith.does c.args.counter.now c.work.new.claimer c.args.workers.now _ c.work.new.worker c.args.tools.now _ c.work.new.tool
    c.if-workers-eq1.true c.requires.tool_each c.work.ensures
