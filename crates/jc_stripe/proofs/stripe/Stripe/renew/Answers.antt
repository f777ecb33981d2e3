use Rattle.std.proofs.Common.{◌∙◌, ap}
use Rattle.jc_stripe.specs.Generations.{after_renewal}
use Rattle.jc_stripe.specs.Renewal.{can_renew}
use Rattle.jc_stripe.proofs.Renewing.{state-renewed, sound-renewed}
use Rattle.jc_stripe.proofs.stripe.Stripe.renew.Goals as goal

-- what the history has counted is what occurred
pub next-life-requires : goal.next-life-requires
next-life-requires c = c.self.invariant.counted

pub invariant_of-self : goal.invariant_of-self
invariant_of-self c = sound-renewed c.self.inside c.next-life.result c.clear.new.self c.self.invariant (ap can_renew c.self.view_is ∙ c.requires) c.next-life.ensures c.clear.ensures.after

pub returns : goal.returns
returns c = record { can = c.requires; after = state-renewed c.self.inside c.next-life.result c.clear.new.self c.self.invariant c.next-life.ensures c.clear.ensures.after ∙ ap after_renewal c.self.view_is }
