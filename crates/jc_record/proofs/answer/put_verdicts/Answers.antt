use Rattle.jc_record.proofs.Common.{◌∙◌, ◌++◌, List, ℕ, ap, append_assoc}
use Rattle.std.specs.Prelude.{codes}
use Rattle.jc_record.specs.Answers.{count_text}
use Rattle.jc_record.proofs.answer.put_verdicts.Goals as goal

pub returns : goal.returns
returns c =
    let explained = count_text (codes "keys explained: ") c.args.tally.now.explained in
    let refuted = count_text (codes ", not explained: ") c.args.tally.now.refuted in
    c.in_ok-put_count-2.ensures
    ∙ ap (λ (x : List ℕ). x ++ refuted) c.in_ok-put_count.ensures
    ∙ append_assoc c.args.out.now.items explained refuted
