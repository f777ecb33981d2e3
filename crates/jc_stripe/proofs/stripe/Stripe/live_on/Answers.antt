use Rattle.std.proofs.Common.{ap}
use Rattle.jc_stripe.specs.Renewal.{live_on}
use Rattle.jc_stripe.proofs.Renewing.{sound-living}
use Rattle.jc_stripe.proofs.stripe.Stripe.live_on.Goals as goal

pub invariant_of-self : goal.invariant_of-self
invariant_of-self c = sound-living c.self.inside c.self.invariant

pub returns : goal.returns
returns c = ap live_on c.self.view_is
