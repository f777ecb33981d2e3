use Rattle.jc_cache.proofs.Forgotten.{forgotten_all}
use Rattle.jc_cache.proofs.forgetting.forget_all_at.Goals as goal

pub returns-clause-forgets : goal.returns-clause-forgets
returns-clause-forgets g c =
    forgotten_all c.one_lending.ensures c.args.agent.now.caller.session c.forgets.ensures c.args.seat.now.1 c.lend_at.new.seat.1 c.sweep_at.new.seat.1 c.lend_at.ensures.phase c.sweep_at.ensures.swept
