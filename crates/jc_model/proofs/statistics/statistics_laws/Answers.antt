use Rattle.jc_model.proofs.Counted.{counts}
use Rattle.jc_model.proofs.statistics.statistics_laws.Goals as goal

pub returns : goal.returns
returns c = counts
