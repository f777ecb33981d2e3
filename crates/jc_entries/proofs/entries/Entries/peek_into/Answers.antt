use Rattle.std.proofs.Common.{ap, ◌∙◌}
use Rattle.jc_model.specs.Cache.{key_cmp}
use Rattle.std.specs.FinMap as finite
use Rattle.jc_entries.specs.ByUse.{ByUse}
use Rattle.jc_entries.proofs.Lru.{lookup-find}
use Rattle.jc_entries.proofs.entries.Entries.peek_into.Goals as goal

pub returns-in-Some : goal.returns-in-Some
returns-in-Some c =
    c.in-Some.ensures ∙ lookup-find c.args.key.now c.self.inside.cache.entries
    ∙ ap (λ (s : ByUse). finite.find key_cmp c.args.key.now s.list) c.self.view_is

pub returns-in-None : goal.returns-in-None
returns-in-None c =
    c.in-None.ensures ∙ lookup-find c.args.key.now c.self.inside.cache.entries
    ∙ ap (λ (s : ByUse). finite.find key_cmp c.args.key.now s.list) c.self.view_is
