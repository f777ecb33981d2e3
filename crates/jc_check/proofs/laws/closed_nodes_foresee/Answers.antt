use Rattle.jc_check.proofs.Leading.{foresees}
use Rattle.jc_check.proofs.laws.closed_nodes_foresee.Goals as goal

pub returns : goal.returns
returns c = foresees
