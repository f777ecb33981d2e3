use Rattle.jc_engine.proofs.Increments.{leaves_next}
use Rattle.jc_engine.proofs.laws.leaves_next.Goals as goal

pub returns : goal.returns
returns c = leaves_next
