use Rattle.jc_rounds.proofs.Common.{polled_with}
use Rattle.jc_session.proofs.CallerLemmas.{polled_counts}
use Rattle.jc_rounds.proofs.KeyCalls.{pick_over, pick_told}
use Rattle.jc_rounds.proofs.key.pick_key.Goals as goal

pub returns-clause-over : goal.returns-clause-over
returns-clause-over g c = pick_over c.args.join (polled_with c.wait_for_load.result c.wait_for_load.new.reply) _ _ c.wait_for_load.ensures.phase.seat.made

pub returns-clause-phase : goal.returns-clause-phase
returns-clause-phase g c =
    let polled = polled_with c.wait_for_load.result c.wait_for_load.new.reply in
    let told = pick_told c.is_uniform.ensures c.own_steps.ensures c.args.cache.now c.args.session.now c.wait_for_load.new.session c.requires.may.own c.steps_behind.ensures c.args.join polled _
    c.wait_for_load.ensures.phase c.requires.caller.0 c.requires.caller.1 c.requires.may.none in
    rw (polled_counts c.wait_for_load.result c.wait_for_load.new.reply) (record { own = c.wait_for_load.ensures.own; agent = c.wait_for_load.ensures.phase.left; moves = told.0; made = told.1 })
