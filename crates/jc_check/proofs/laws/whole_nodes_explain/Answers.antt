use Rattle.jc_check.proofs.Continuing.{whole-explains}
use Rattle.jc_check.proofs.laws.whole_nodes_explain.Goals as goal

pub returns : goal.returns
returns c = whole-explains
