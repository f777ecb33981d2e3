use Rattle.jc_rounds.proofs.Common.{begun_with}
use Rattle.jc_session.proofs.CallerLemmas.{counted_with}
use Rattle.jc_rounds.proofs.KeyCalls.{may_start, start_told}
use Rattle.jc_rounds.proofs.key.start_key.Goals as goal

pub start-requires-clause-may : goal.start-requires-clause-may
start-requires-clause-may g c = may_start c.args.cache.now c.args.session.now c.args.key.now c.requires.before c.requires.may.none

pub returns : goal.returns
returns g c =
    let told = start_told c.is_uniform.ensures c.own_steps.ensures c.args.cache.now c.args.session.now c.start.new.session c.requires.may.own c.args.key.now c.args.op.now (begun_with c.start.result c.start.new.reply) _ c.start.ensures.phase c.requires.before c.requires.may.none in
    rw (counted_with c.start.result c.start.new.reply) (record { own = c.start.ensures.own; agent = c.start.ensures.phase.left; moves = told.0; made = told.1 })
