use Rattle.jc_litmus.proofs.Common.{◌∙◌, ap, append_assoc, ◌++◌, List, ℕ, codes, counts_text}
use Rattle.jc_litmus.proofs.answer.put_whole_line.Goals as goal

pub returns : goal.returns
returns c =
    let counts = counts_text c.args.outcomes c.args.states in
    c.in_ok-put_counts.ensures
    ∙ ap (λ (x : List ℕ). x ++ counts) c.in_ok-put.ensures
    ∙ append_assoc c.args.out.now.items (codes "all outcomes: ") counts
