use Rattle.jc_cache.proofs.Common.{rules, slice_set, ap, CacheState}
use Rattle.jc_cache.proofs.SessionPhases.{number_at}
use Rattle.jc_cache.proofs.WholeCalls.{completes_as, free_at, ready_next, may_call, got}
use Rattle.jc_cache.proofs.cache.Cache.get_into.Goals as goal

pub get_into-requires-clause-ready : goal.get_into-requires-clause-ready
get_into-requires-clause-ready g c =
    let there = number_at c.args.self.now c.args.session.now c.stripe_of-at.result c.index_mut.result.now c.requires.may.own c.stripe_of-at.ensures.near c.index_mut.ensures.value in
    ready_next c.args.self.now c.args.session.now c.stripe_of-at.result _ c.requires.may.own there
    (free_at c.args.self.now c.args.session.now c.self.inside.locks.items c.stripe_of-at.result c.index_mut.result.now c.index.result.now c.requires.may.own (ap (λ (z : CacheState). z.locks) c.self.view_is) there c.index.ensures) c.next_call.ensures.call

pub get_into-requires-clause-may : goal.get_into-requires-clause-may
get_into-requires-clause-may g c =
    let there = number_at c.args.self.now c.args.session.now c.stripe_of-at.result c.index_mut.result.now c.requires.may.own c.stripe_of-at.ensures.near c.index_mut.ensures.value in
    may_call c.laws.ensures.numbers c.args.self.now c.args.session.now c.next_call.new.self c.stripe_of-at.result c.index_mut.result.now c.args.key.now c.requires.may c.next_call.ensures.call there

pub returns : goal.returns
returns g c =
    let there = number_at c.args.self.now c.args.session.now c.stripe_of-at.result c.index_mut.result.now c.requires.may.own c.stripe_of-at.ensures.near c.index_mut.ensures.value in
    completes_as _ _ _ _ (λ made. (c.get_into.ensures.call.0, made.0, c.get_into.ensures.call.2, made.1))
    (got _ _ _ _ c.laws.ensures.lending c.laws.ensures.behind c.laws.ensures.numbers c.args.self.now c.args.session.now _ c.next_call.new.self c.get_into.new.self.agent.now c.args.key.now c.stripe_of-at.result
    c.get_into.ensures.call.0 _ c.index_mut.result.now c.get_into.new.self.gate.now c.get_into.new.self.token.now c.requires.may c.next_call.ensures.call (search rules) c.stripe_of-at.ensures.at there (ap (slice_set c.args.session.now.seats.items c.stripe_of-at.result) (search rules)) c.get_into.ensures.call.1 c.get_into.ensures.call.3)
