use Rattle.jc_record.proofs.Common.{◌∙◌, ◌++◌, List, ℕ, ap, append_assoc}
use Rattle.std.specs.Prelude.{codes}
use Rattle.jc_record.specs.Answers.{count_text, verdicts_text}
use Rattle.jc_record.proofs.answer.put_closing.Goals as goal

pub returns : goal.returns
returns c =
    let verdicts = verdicts_text c.args.tally.now in
    let stopped = count_text (codes ", given up: ") c.args.tally.now.stopped in
    c.in_ok-put.ensures
    ∙ ap (λ (x : List ℕ). x ++ codes "\n") (c.in_ok-put_count.ensures ∙ ap (λ (x : List ℕ). x ++ stopped) c.in_ok-put_verdicts.ensures)
    ∙ ap (λ (x : List ℕ). x ++ codes "\n") (append_assoc c.args.out.now.items verdicts stopped)
    ∙ append_assoc c.args.out.now.items (verdicts ++ stopped) (codes "\n")
