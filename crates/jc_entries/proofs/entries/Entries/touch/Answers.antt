use Rattle.std.proofs.Common.{ap, sym, ◌∙◌, subst, is_some}
use Rattle.std.specs.FinMap as finite
use Rattle.jc_model.specs.Cache.{key_cmp}
use Rattle.jc_entries.specs.ByUse.{ByUse, IsValidByUse, after_touch}
use Rattle.jc_entries.specs.EntriesInside.{by_use_of}
use Rattle.jc_entries.proofs.IsValidByUse.{IsValidByUse-after_touch}
use Rattle.jc_entries.proofs.Lru.{lookup-find, by_use-promoted}
use Rattle.jc_entries.proofs.entries.Entries.touch.Goals as goal

pub invariant_of-self : goal.invariant_of-self
invariant_of-self c =
    let after = by_use-promoted _ _ c.args.key.now c.self.invariant c.promote.ensures.entries in
    subst IsValidByUse (sym after) (IsValidByUse-after_touch (by_use_of c.self.inside) c.args.key.now c.self.invariant)

pub returns-clause-found : goal.returns-clause-found
returns-clause-found c =
    c.promote.ensures.value ∙ ap is_some (lookup-find c.args.key.now c.self.inside.cache.entries)
    ∙ ap (λ (s : ByUse). is_some (finite.find key_cmp c.args.key.now s.list)) c.self.view_is

pub returns-clause-after : goal.returns-clause-after
returns-clause-after c =
    by_use-promoted _ _ c.args.key.now c.self.invariant c.promote.ensures.entries
    ∙ ap (λ (s : ByUse). record s { list = after_touch c.args.key.now s.list }) c.self.view_is

pub returns-clause-valid : goal.returns-clause-valid
returns-clause-valid c = invariant_of-self c
