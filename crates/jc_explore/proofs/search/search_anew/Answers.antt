use Rattle.jc_explore.proofs.Common.{[]}
use Rattle.std.proofs.lemmas.Result.{err_from_is_err_and}
use Rattle.jc_explore.proofs.Telling.{none-told, tells-none}
use Rattle.jc_explore.proofs.search.search_anew.Goals as goal

pub returns-in_err-scene-clause-told : goal.returns-in_err-scene-clause-told
returns-in_err-scene-clause-told g c =
    let p = err_from_is_err_and c.from_residual.result c.from_residual.ensures.1 in
    rw p.1 ([], tells-none _, none-told c.args.program.now c.args.states)
