use Rattle.jc_text.proofs.Common.{◌≡◌, ◌++◌, drop, answer_text, answers_text}
use Rattle.jc_text.proofs.print.process.put_answers.Given as goal

abbrev pub invariant-loop-answer : goal.invariant-loop-answer
invariant-loop-answer l =
    l.out.items ++ answers_text l.call (answer_text l.call l.key l.verb l.loaded) (drop l.answer-index l.answers)
    ≡ l.fn.out.items ++ answers_text l.call (answer_text l.call l.key l.verb l.load) l.answers
