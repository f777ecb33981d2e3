use Rattle.jc_bulk.proofs.Common.{inr, refl}
use Rattle.jc_bulk.proofs.Quiet.{quiet_sweep}
use Rattle.jc_bulk.proofs.sweeping.clear.Goals as goal

pub sweep-requires-clause-asks : goal.sweep-requires-clause-asks
sweep-requires-clause-asks g c = inr (inr refl)

pub returns-clause-outside : goal.returns-clause-outside
returns-clause-outside g c = quiet_sweep _ c.args.cache.now c.args.session.now c.sweep.new.session c.sweep.result c.sweep.ensures.call
