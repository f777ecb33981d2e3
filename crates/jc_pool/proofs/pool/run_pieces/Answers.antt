use Rattle.std.proofs.Common.{rules}
use Rattle.std.proofs.lemmas.Result.{on_ok_weaker}
use Rattle.jc_pool.proofs.Shares.{all_with_tools, without_units}
use Rattle.jc_pool.proofs.pool.run_pieces.Goals as goal

pub run_pieces_with-requires-clause-able : goal.run_pieces_with-requires-clause-able
run_pieces_with-requires-clause-able g c κs within =
    all_with_tools g.W.Work.can_do c.args.pieces c.args.workers.now c.as_mut_slice.result.now (search rules) c.requires.able

pub returns-clause-done : goal.returns-clause-done
returns-clause-done g c =
    let plain = without_units g.W.Work.did g.W.Work.job g.W.Work.can_do g.W.Work.does c.args.pieces c.args.workers.now c.run_pieces_with.new.workers c.as_mut_slice.result.now c.run_pieces_with.new.tools
    (search rules) c.run_pieces_with.ensures.len.0 c.run_pieces_with.ensures.len.1 in
    on_ok_weaker _ plain c.run_pieces_with.ensures.done
