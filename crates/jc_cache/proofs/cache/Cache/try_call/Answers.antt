use Rattle.jc_cache.proofs.Common.{rules, slice_set, ap, ended_with, CacheState}
use Rattle.jc_cache.proofs.SessionPhases.{number_at}
use Rattle.jc_cache.proofs.WholeCalls.{free_at, ready_next, may_begin, tried}
use Rattle.jc_cache.proofs.cache.Cache.try_call.Goals as goal

pub try_call-requires-clause-ready : goal.try_call-requires-clause-ready
try_call-requires-clause-ready g c =
    let there = number_at c.args.self.now c.args.session.now c.stripe_of-at.result c.index_mut.result.now c.requires.may.own c.stripe_of-at.ensures.near c.index_mut.ensures.value in
    ready_next c.args.self.now c.args.session.now c.stripe_of-at.result _ c.requires.may.own there
    (free_at c.args.self.now c.args.session.now c.self.inside.locks.items c.stripe_of-at.result c.index_mut.result.now c.index.result.now c.requires.may.own (ap (λ (z : CacheState). z.locks) c.self.view_is) there c.index.ensures) c.next_call.ensures.call

pub try_call-requires-clause-begins : goal.try_call-requires-clause-begins
try_call-requires-clause-begins g c a finds =
    let there = number_at c.args.self.now c.args.session.now c.stripe_of-at.result c.index_mut.result.now c.requires.may.own c.stripe_of-at.ensures.near c.index_mut.ensures.value in
    may_begin c.laws.ensures.numbers c.args.self.now c.args.session.now c.next_call.new.self c.stripe_of-at.result _ _ a c.requires.may c.next_call.ensures.call there finds

pub returns : goal.returns
returns g c =
    let there = number_at c.args.self.now c.args.session.now c.stripe_of-at.result c.index_mut.result.now c.requires.may.own c.stripe_of-at.ensures.near c.index_mut.ensures.value in
    tried c.laws.ensures.lending c.laws.ensures.numbers c.args.self.now c.args.session.now _ c.next_call.new.self c.args.key.now c.args.op.now c.stripe_of-at.result
    (ended_with c.try_call.result c.try_call.new.reply) _ c.index_mut.result.now c.try_call.new.self.gate.now c.try_call.new.self.token.now c.requires.may c.next_call.ensures.call c.stripe_of-at.ensures.at there (ap (slice_set c.args.session.now.seats.items c.stripe_of-at.result) (search rules))
    (search rules) c.try_call.ensures.phase
