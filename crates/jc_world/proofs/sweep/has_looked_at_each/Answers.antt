use Rattle.jc_world.proofs.Common.{sym, ◌∙◌}
use Rattle.jc_world.proofs.Unseen.{missed}
use Rattle.jc_world.proofs.sweep.has_looked_at_each.Goals as goal

pub returns-then-not-contains : goal.returns-then-not-contains
returns-then-not-contains c =
    sym (missed c.args.looked.now c.loop-stripe.stripe-counter c.args.stripes (sym c.contains.ensures.value ∙ c.if-not-contains.true) c.loop-stripe-test.true)
