use Rattle.std.proofs.Common.{ap}
use Rattle.jc_stripe.specs.State.{State}
use Rattle.jc_stripe.proofs.Dropping.{sound_retold}
use Rattle.jc_stripe.proofs.stripe.Stripe.set_shut.Goals as goal

pub invariant_of-self : goal.invariant_of-self
invariant_of-self c = sound_retold c.self.inside c.self.inside.marks c.args.shut c.self.invariant c.self.invariant.state.marks

pub returns : goal.returns
returns c = ap (λ (s : State). record s { shut = c.args.shut }) c.self.view_is
