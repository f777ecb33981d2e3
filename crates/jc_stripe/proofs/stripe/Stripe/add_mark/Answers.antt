use Rattle.std.proofs.Common.{ap, ◌∙◌}
use Rattle.jc_stripe.specs.State.{State, is_reserved}
use Rattle.jc_stripe.proofs.Dropping.{sound_retold, added_reserved}
use Rattle.jc_stripe.proofs.stripe.Stripe.add_mark.Goals as goal

pub invariant_of-self : goal.invariant_of-self
invariant_of-self c =
    let i = c.self.inside in
    sound_retold i c.add.new.self i.is_shut c.self.invariant
    (added_reserved i.reservations.held i.marks c.add.new.self c.args.key.now c.add.result c.add.ensures.added c.add.ensures.full c.self.invariant.state.marks
    (ap (λ (s : State). is_reserved s c.args.key.now) c.self.view_is ∙ c.requires))
