use Rattle.std.proofs.Common.{ap, ◌∙◌}
use Rattle.jc_model.specs.Cache.{entry_at}
use Rattle.jc_model.proofs.Ordered.{get-cache}
use Rattle.jc_model.proofs.contents.Contents.get.Goals as goal

pub returns : goal.returns
returns c = c.get.ensures.value ∙ get-cache c.self.inside.map c.args.key.now ∙ ap (λ m. entry_at m c.args.key.now) c.self.view_is
