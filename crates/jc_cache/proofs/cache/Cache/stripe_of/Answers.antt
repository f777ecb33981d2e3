use Rattle.jc_cache.proofs.Common.{ap, CacheState}
use Rattle.jc_cache.proofs.WholeCalls.{some_stripe, at_key, number_near}
use Rattle.jc_cache.proofs.cache.Cache.stripe_of.Goals as goal

pub stripe_of-requires : goal.stripe_of-requires
stripe_of-requires c = some_stripe c.self.inside.config c.self.invariant.fits

pub returns-clause-at : goal.returns-clause-at
returns-clause-at c = at_key c.args.self.now _ c.args.key.now _ (ap (λ (z : CacheState). z.config) c.self.view_is) c.stripe_of.ensures

pub returns-clause-near : goal.returns-clause-near
returns-clause-near c = number_near c.args.self.now c.self.inside.config c.args.key.now c.stripe_of.result c.self.invariant.fits (ap (λ (z : CacheState). z.config) c.self.view_is) c.stripe_of.ensures
