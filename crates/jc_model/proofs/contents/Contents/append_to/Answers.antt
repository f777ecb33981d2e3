use Rattle.std.proofs.Common.{◌≡◌, take, ap, sym, ◌∙◌, rules}
use Rattle.std.specs.FinMap as map
use Rattle.jc_model.proofs.Ordered.{entries-cache, cut_back}
use Rattle.jc_model.proofs.contents.Contents.append_to.Goals as goal

pub loop-key-init : goal.loop-key-init
loop-key-init c =
    let entries = sym (entries-cache c.self.inside.map c.self.invariant) ∙ ap map.entries c.self.view_is in
    search rules

pub returns-then-is_err-clause-err : goal.returns-then-is_err-clause-err
returns-then-is_err-clause-err c =
    let kept : c.push.new.self.items ≡ c.loop-key.out.items = search rules in
    c.truncate.ensures.items ∙ ap (take c.len-before.result) kept ∙ cut_back _ _ _ _ _ (search rules) (search rules) c.loop-key.invariant.1
