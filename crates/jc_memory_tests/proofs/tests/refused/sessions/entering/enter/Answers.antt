use Rattle.std.proofs.Common.{ap}
use Rattle.jc_cache.specs.Caches.{CacheOwnerState}
use Rattle.jc_cache.specs.Sessions.{MayCall}
use Rattle.jc_memory_tests.proofs.Sessions.{one_more}
use Rattle.jc_memory_tests.proofs.tests.refused.sessions.entering.enter.Goals as goal

pub returns : goal.returns
returns g c =
    one_more c.args.sessions.now.items _ _ (λ k s. MayCall k s) _ _ (ap (λ (o : CacheOwnerState). o.cache) c.in-Ok.ensures.ok.owner) c.push.ensures c.requires c.in-Ok.ensures.ok.may
