use Rattle.std.proofs.Common.{◌∙◌, ◌++◌, ℕ, List, [], ap, append_assoc, sym}
use Rattle.jc_text.specs.Spelled.{operation_words}
use Rattle.jc_litmus.specs.Spaced.{begin_text, spaced}
use Rattle.jc_litmus.proofs.Joined.{begun_spaced}
use Rattle.jc_litmus.proofs.spelling.put_begin.Goals as goal

pub returns : goal.returns
returns c =
    let call = c.args.beginning.call in
    let session = c.args.beginning.session in
    let words = operation_words c.args.op.now c.args.key.now in
    c.in_ok-put_operation.ensures
    ∙ ap (λ (x : List ℕ). x ++ spaced words) c.in_ok-put_beginning.ensures
    ∙ append_assoc c.args.out.now.items (begin_text call session []) (spaced words)
    ∙ ap (λ (x : List ℕ). c.args.out.now.items ++ x) (sym (begun_spaced call session words))
