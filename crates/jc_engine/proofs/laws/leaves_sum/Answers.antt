use Rattle.jc_engine.proofs.Increments.{leaves_sum}
use Rattle.jc_engine.proofs.laws.leaves_sum.Goals as goal

pub returns : goal.returns
returns c = leaves_sum
