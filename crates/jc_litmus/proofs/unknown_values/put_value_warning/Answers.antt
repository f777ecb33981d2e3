use Rattle.jc_litmus.proofs.Common.{◌∙◌, ap, append_assoc, ◌++◌, List, ℕ, codes}
use Rattle.jc_litmus.specs.UnknownValues.{unknown_text}
use Rattle.jc_litmus.proofs.unknown_values.put_value_warning.Goals as goal

pub returns : goal.returns
returns c =
    let old = c.args.out.now.items in
    let text = c.args.text.now in
    let beginning = unknown_text c.args.value.now in
    c.in_ok-put_line_end.ensures
    ∙ ap (λ (x : List ℕ). (x ++ text) ++ codes "\n") c.in_ok-put_unknown.ensures
    ∙ append_assoc (old ++ beginning) text (codes "\n")
    ∙ append_assoc old beginning (text ++ codes "\n")
