use Rattle.std.proofs.Common.{None, ap, ◌∙◌}
use Rattle.jc_model.specs.Cache.{with_entry}
use Rattle.jc_model.proofs.Ordered.{cache-updates}
use Rattle.jc_model.proofs.contents.Contents.remove.Goals as goal

pub returns : goal.returns
returns c =
    cache-updates c.self.inside.map c.remove.new.self c.args.key.now None c.remove.ensures.updates
    ∙ ap (λ m. with_entry m c.args.key.now None) c.self.view_is
