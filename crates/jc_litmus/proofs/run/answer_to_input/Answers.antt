use Rattle.jc_litmus.proofs.Meanings.{answers_of}
use Rattle.jc_litmus.proofs.run.answer_to_input.Goals as goal

pub returns-in_ok-warn_of-in-Ok : goal.returns-in_ok-warn_of-in-Ok
returns-in_ok-warn_of-in-Ok g c =
    answers_of c.args.states c.args.input.now c.in-Ok.litmus (λ v. v.0.items) (λ v. v.1) c.answer_to_read.result _ _ c.in-Ok.ensures.program c.answer_to_read.ensures
    (rw c.in-Ok.ensures.notes.0 at c.in_ok-warn_of-in-Ok.ensures)
