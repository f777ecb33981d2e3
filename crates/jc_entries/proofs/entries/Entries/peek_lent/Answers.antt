use Rattle.std.proofs.Common.{ap, ◌∙◌}
use Rattle.jc_model.specs.Cache.{key_cmp}
use Rattle.std.specs.FinMap as finite
use Rattle.jc_entries.specs.ByUse.{ByUse}
use Rattle.jc_entries.proofs.Lru.{lookup-find}
use Rattle.jc_entries.proofs.entries.Entries.peek_lent.Goals as goal

pub returns : goal.returns
returns c =
    c.peek.ensures ∙ lookup-find c.args.key.now c.self.inside.cache.entries
    ∙ ap (λ (s : ByUse). finite.find key_cmp c.args.key.now s.list) c.self.view_is
