use Rattle.std.proofs.Common.{refl, take}
use Rattle.jc_shell.proofs.run.say.Goals as goal

pub returns-in-Err-clause-err : goal.returns-in-Err-clause-err
returns-in-Err-clause-err g c =
    let w = c.in-Err.ensures.err in
    (refl, (take w.0 c.args.text.now, (w.0, w.1, refl), w.2))
