use Rattle.jc_explore.proofs.Common.{◌≡◌, ◌∙◌, Some, sym, ap, subst, KnownState, HaveOneKey}
use Rattle.jc_explore.proofs.Searching.{same-at, there-at}
use Rattle.jc_explore.proofs.known.States.is_at.Goals as goal

pub returns-clause-same : goal.returns-clause-same
returns-clause-same c same =
    let known = c.args.self.now.list.items in
    let k = c.index-2.result.now in
    (k, there-at known c.args.place k c.requires.inside ∙ ap (λ (x : KnownState). Some x) (sym c.index-2.ensures), c.is_same.ensures.same same)

pub returns-clause-apart : goal.returns-clause-apart
returns-clause-apart c apart there =
    let is : c.index-2.result.now ≡ there.0 = c.index-2.ensures ∙ same-at c.args.self.now.list.items c.args.place c.index-2.result.now there.0 c.requires.inside there.1 in
    c.is_same.ensures.apart apart (subst (λ (x : KnownState). HaveOneKey x.key c.args.key.now) (sym is) there.2)
