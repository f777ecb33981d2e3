use Rattle.jc_cache.proofs.Common.{◌∙◌, refl}
use Rattle.jc_cache.proofs.Forgotten.{swept_last, swept_next, swept_none}
use Rattle.jc_cache.proofs.forgetting.sweep_at.Goals as goal

pub loop-init : goal.loop-init
loop-init g c = (refl, refl, swept_none c.args.seat.now.1 c.requires.1.free)

pub returns-then-not-lend_at-clause-swept : goal.returns-then-not-lend_at-clause-swept
returns-then-not-lend_at-clause-swept g c =
    swept_last c.one_lending.ensures c.loop.agent.caller.session c.lend_at.result c.args.seat.now.1 c.loop.seat.1 c.lend_at.new.seat.1 c.loop.invariant.2 c.lend_at.ensures.phase c.if-not-lend_at.true

pub loop-preserved : goal.loop-preserved
loop-preserved g c = (
  c.lend_at.ensures.agent ∙ c.loop.invariant.0,
  c.lend_at.ensures.lock ∙ c.loop.invariant.1,
  swept_next c.one_lending.ensures c.loop.agent.caller.session c.lend_at.result c.args.seat.now.1 c.loop.seat.1 c.lend_at.new.seat.1 c.loop.invariant.2 c.lend_at.ensures.phase,
)
