use Rattle.jc_shell.proofs.Common.{◌++◌, Write, appends-then}
use Rattle.jc_shell.proofs.Streams.{err_then, ok_then, written_more, written_then}
use Rattle.jc_shell.proofs.run.say_both.Goals as goal

pub returns-in-Ok-clause-ok : goal.returns-in-Ok-clause-ok
returns-in-Ok-clause-ok g c = ok_then c.say-in-Ok.result _ _ (λ second. appends-then _ _ _ _ _ c.in-Ok.ensures.ok second) c.say-in-Ok.ensures.ok

pub returns-in-Ok-clause-err : goal.returns-in-Ok-clause-err
returns-in-Ok-clause-err g c =
    let answer = c.args.answer.now in
    let prompt = c.args.prompt.now in
    err_then c.say-in-Ok.result _ _ (λ e s. (
      s.0,
      (
        answer ++ s.1.0,
        written_then Write answer prompt s.1.0 s.1.1,
        appends-then _ _ _ answer s.1.0 c.in-Ok.ensures.ok s.1.2,
      ),
    )) c.say-in-Ok.ensures.err

pub returns-in-Err-clause-err : goal.returns-in-Err-clause-err
returns-in-Err-clause-err g c =
    let s = c.in-Err.ensures.err in
    (s.0, (s.1.0, written_more c.args.answer.now c.args.prompt.now s.1.0 s.1.1, s.1.2))
