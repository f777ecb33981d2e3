use Rattle.jc_cache.proofs.Common.{rules, slice_set, ap, refl, Turn, waiting, waited_keeps, CacheState}
use Rattle.jc_cache.proofs.WholeCalls.{free_at, ready}
use Rattle.jc_cache.proofs.SessionPhases.{number_at, phase_left}
use Rattle.jc_cache.proofs.cache.Cache.phase_at.Goals as goal

pub lend-requires-clause-ready : goal.lend-requires-clause-ready
lend-requires-clause-ready g c =
    let t = c.index_mut.result.now in
    let there = number_at c.args.self.now c.args.session.now c.args.number t c.requires.own c.requires.stripe c.index_mut.ensures.value in
    ready c.args.self.now c.args.session.now c.args.number _ c.requires.own there
    (free_at c.args.self.now c.args.session.now c.self.inside.locks.items c.args.number t c.index.result.now c.requires.own (ap (λ (z : CacheState). z.locks) c.self.view_is) there c.index.ensures) refl

pub lend-requires-clause-fits : goal.lend-requires-clause-fits
lend-requires-clause-fits g c =
    let t = c.index_mut.result.now in
    let there = number_at c.args.self.now c.args.session.now c.args.number t c.requires.own c.requires.stripe c.index_mut.ensures.value in
    record { who_is = c.requires.who; needs_it = λ a finds. c.requires.needs a (t, there, finds) }

pub returns : goal.returns
returns g c =
    let t = c.index_mut.result.now in
    let there = number_at c.args.self.now c.args.session.now c.args.number t c.requires.own c.requires.stripe c.index_mut.ensures.value in
    let turn : Turn = waiting (g.P.Phase.due c.args.phase) (g.P.Phase.puts_off c.args.phase) (λ a b. g.P.Phase.makes c.args.phase a c.lend.result c.lend.new.reply b) in
    phase_left c.one_lending.ensures c.args.self.now c.args.session.now _ c.args.number (g.P.Phase.counts c.lend.result) turn _ t c.lend.new.self.gate.now c.lend.new.self.token.now
    c.requires.own there (ap (slice_set c.args.session.now.seats.items c.args.number) (search rules)) (search rules) (waited_keeps c.one_lending.ensures _ _ _) c.lend.ensures.phase.0 c.lend.ensures.phase.1
