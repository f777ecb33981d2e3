use Rattle.jc_cache.proofs.Common.{rules, slice_set, ap, ended_with, CacheState}
use Rattle.jc_cache.proofs.SessionPhases.{number_at}
use Rattle.jc_cache.proofs.WholeCalls.{free_at, ready_next, may_call, called}
use Rattle.jc_cache.proofs.cache.Cache.call.Goals as goal

pub call-requires-clause-op : goal.call-requires-clause-op
call-requires-clause-op g c = c.requires.op

pub call-requires-clause-ready : goal.call-requires-clause-ready
call-requires-clause-ready g c =
    let there = number_at c.args.self.now c.args.session.now c.stripe_of-at.result c.index_mut.result.now c.requires.may.own c.stripe_of-at.ensures.near c.index_mut.ensures.value in
    ready_next c.args.self.now c.args.session.now c.stripe_of-at.result _ c.requires.may.own there
    (free_at c.args.self.now c.args.session.now c.self.inside.locks.items c.stripe_of-at.result c.index_mut.result.now c.index.result.now c.requires.may.own (ap (λ (z : CacheState). z.locks) c.self.view_is) there c.index.ensures) c.next_call.ensures.call

pub call-requires-clause-may : goal.call-requires-clause-may
call-requires-clause-may g c =
    let there = number_at c.args.self.now c.args.session.now c.stripe_of-at.result c.index_mut.result.now c.requires.may.own c.stripe_of-at.ensures.near c.index_mut.ensures.value in
    may_call c.laws.ensures.numbers c.args.self.now c.args.session.now c.next_call.new.self c.stripe_of-at.result c.index_mut.result.now c.args.key.now c.requires.may c.next_call.ensures.call there

pub returns : goal.returns
returns g c =
    let there = number_at c.args.self.now c.args.session.now c.stripe_of-at.result c.index_mut.result.now c.requires.may.own c.stripe_of-at.ensures.near c.index_mut.ensures.value in
    called _ _ _ _ c.laws.ensures.lending c.laws.ensures.behind c.laws.ensures.numbers c.args.self.now c.args.session.now _ c.next_call.new.self c.call.new.self.agent.now c.args.key.now c.args.op.now c.stripe_of-at.result
    (ended_with c.call.result c.call.new.reply) _ c.index_mut.result.now c.call.new.self.gate.now c.call.new.self.token.now c.requires.may c.next_call.ensures.call (search rules) c.stripe_of-at.ensures.at there (ap (slice_set c.args.session.now.seats.items c.stripe_of-at.result) (search rules)) c.call.ensures.call
