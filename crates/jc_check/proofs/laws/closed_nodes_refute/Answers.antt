use Rattle.jc_check.proofs.Continuing.{refutes}
use Rattle.jc_check.proofs.laws.closed_nodes_refute.Goals as goal

pub returns : goal.returns
returns c = refutes
