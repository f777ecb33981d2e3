use Rattle.std.proofs.Common.{ap, sym, ◌∙◌}
use Rattle.std.specs.FinMap as map
use Rattle.jc_model.proofs.Ordered.{len-cache}
use Rattle.jc_model.proofs.contents.Contents.len.Goals as goal

pub returns : goal.returns
returns c = c.len.ensures.len ∙ sym (len-cache c.self.inside.map c.self.invariant) ∙ ap map.len c.self.view_is
