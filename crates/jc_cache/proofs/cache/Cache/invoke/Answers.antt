use Rattle.jc_cache.proofs.Common.{rules, slice_set, ◌≡◌, ◌∙◌, ap, sym, ended_with, CacheState}
use Rattle.jc_cache.proofs.SessionPhases.{number_at}
use Rattle.jc_cache.proofs.WholeCalls.{completes_as, free_at, ready_next, may_call, writes_as, invoked}
use Rattle.jc_cache.proofs.cache.Cache.invoke.Goals as goal

pub invoke-ended-requires-clause-through : goal.invoke-ended-requires-clause-through
invoke-ended-requires-clause-through g c a finds =
    let same : c.self.inside.config ≡ c.args.self.now.config = ap (λ (z : CacheState). z.config) c.self.view_is in
    let there = number_at c.args.self.now c.args.session.now c.stripe_of-at.result c.index_mut.result.now c.requires.may.own c.stripe_of-at.ensures.near c.index_mut.ensures.value in
    writes_as c.args.self.now c.args.session.now c.stripe_of-at.result _ a c.requires.may there finds ∙ ap (λ k. k.write_through) (sym same)

pub invoke-ended-requires-clause-ready : goal.invoke-ended-requires-clause-ready
invoke-ended-requires-clause-ready g c =
    let there = number_at c.args.self.now c.args.session.now c.stripe_of-at.result c.index_mut.result.now c.requires.may.own c.stripe_of-at.ensures.near c.index_mut.ensures.value in
    ready_next c.args.self.now c.args.session.now c.stripe_of-at.result _ c.requires.may.own there
    (free_at c.args.self.now c.args.session.now c.self.inside.locks.items c.stripe_of-at.result c.index_mut.result.now c.index.result.now c.requires.may.own (ap (λ (z : CacheState). z.locks) c.self.view_is) there c.index.ensures) c.next_call.ensures.call

pub invoke-ended-requires-clause-may : goal.invoke-ended-requires-clause-may
invoke-ended-requires-clause-may g c =
    let there = number_at c.args.self.now c.args.session.now c.stripe_of-at.result c.index_mut.result.now c.requires.may.own c.stripe_of-at.ensures.near c.index_mut.ensures.value in
    may_call c.laws.ensures.numbers c.args.self.now c.args.session.now c.next_call.new.self c.stripe_of-at.result c.index_mut.result.now c.args.key.now c.requires.may c.next_call.ensures.call there

pub returns : goal.returns
returns g c =
    let there = number_at c.args.self.now c.args.session.now c.stripe_of-at.result c.index_mut.result.now c.requires.may.own c.stripe_of-at.ensures.near c.index_mut.ensures.value in
    completes_as _ _ _ _ (λ made. (ended_with c.invoke-ended.result c.invoke-ended.new.reply, made, c.value_of.ensures))
    (invoked _ _ _ _ c.laws.ensures.lending c.laws.ensures.behind c.laws.ensures.numbers _ _ c.args.self.now c.args.session.now _ c.next_call.new.self c.invoke-ended.new.self.agent.now c.args.key.now c.args.args.now
    c.args.processor.now c.invoke-ended.new.invocation.processor.now _ c.stripe_of-at.result (ended_with c.invoke-ended.result c.invoke-ended.new.reply) _ c.index_mut.result.now c.invoke-ended.new.self.gate.now c.invoke-ended.new.self.token.now c.requires.may c.next_call.ensures.call
    (search rules) (search rules) c.stripe_of-at.ensures.at there (ap (slice_set c.args.session.now.seats.items c.stripe_of-at.result) (search rules)) c.invoke-ended.ensures.call.call)
