use Rattle.std.proofs.Common.{sym, ap, ◌∙◌, true, false}
use Rattle.jc_model.specs.Cache.{entry_at}
use Rattle.jc_model.specs.Group.{without_victim}
use Rattle.jc_model.proofs.CallerLemmas.{get-without}
use Rattle.jc_model.proofs.reader.fits.entry_before.Goals as goal

pub returns-then-eq : goal.returns-then-eq
returns-then-eq c =
    sym (ap (λ victim. entry_at (without_victim c.args.contents.now victim) c.args.key.now) c.in-Some.is
    ∙ get-without c.args.contents.now c.in-Some.gone c.args.key.now true (sym c.eq.ensures ∙ c.if-eq.true))

pub returns-else-eq : goal.returns-else-eq
returns-else-eq c =
    c.copied.ensures ∙ c.get.ensures
    ∙ sym (ap (λ victim. entry_at (without_victim c.args.contents.now victim) c.args.key.now) c.in-Some.is
    ∙ get-without c.args.contents.now c.in-Some.gone c.args.key.now false (sym c.eq.ensures ∙ c.if-eq.false))
