use Rattle.std.proofs.Common.{Some, ap, ◌∙◌}
use Rattle.jc_model.specs.Cache.{with_entry}
use Rattle.jc_model.proofs.Ordered.{cache-updates}
use Rattle.jc_model.proofs.contents.Contents.insert.Goals as goal

pub returns-clause-ok : goal.returns-clause-ok
returns-clause-ok c =
    cache-updates c.self.inside.map c.insert.new.self c.args.key.now (Some c.args.value) c.in_ok-insert.ensures.updates
    ∙ ap (λ m. with_entry m c.args.key.now (Some c.args.value)) c.self.view_is
