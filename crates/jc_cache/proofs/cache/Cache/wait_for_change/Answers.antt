use Rattle.jc_cache.proofs.Common.{ap, CacheState}
use Rattle.jc_cache.proofs.SessionPhases.{number_at}
use Rattle.jc_cache.proofs.WholeCalls.{free_at}
use Rattle.jc_cache.proofs.cache.Cache.wait_for_change.Goals as goal

pub wait_for_change-requires-clause-free : goal.wait_for_change-requires-clause-free
wait_for_change-requires-clause-free g c =
    let there = number_at c.args.self.now c.args.session.now c.stripe_of-at.result c.index-2.result.now c.requires.own c.stripe_of-at.ensures.near c.index-2.ensures in
    (c.requires.own.held, free_at c.args.self.now c.args.session.now c.self.inside.locks.items c.stripe_of-at.result c.index-2.result.now c.index.result.now c.requires.own (ap (λ (z : CacheState). z.locks) c.self.view_is) there c.index.ensures)
