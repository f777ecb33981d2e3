use Rattle.std.proofs.Common.{ap, ◌∙◌}
use Rattle.jc_stripe.specs.State.{State}
use Rattle.jc_stripe.proofs.Restarting.{sound-restarted}
use Rattle.jc_stripe.proofs.stripe.Stripe.restart.Goals as goal

pub invariant_of-self : goal.invariant_of-self
invariant_of-self c =
    sound-restarted c.self.inside c.clear.new.self c.restart.new.self c.clear-2.new.self c.restart-2.new.self c.new-self-inside.result c.clear-3.new.self c.clear-3.ensures c.self.invariant (ap (λ (s : State). s.reservations) c.self.view_is ∙ c.requires)
    (record { entries_are = c.clear.ensures; table_is = c.restart.ensures; joiners_are = c.clear-2.ensures; history_is = c.restart-2.ensures; life_is = c.new-self-inside.ensures })
