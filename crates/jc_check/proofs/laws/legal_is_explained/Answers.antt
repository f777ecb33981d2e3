use Rattle.jc_check.proofs.RecordedTurns.{legal-explained}
use Rattle.jc_check.proofs.laws.legal_is_explained.Goals as goal

pub returns : goal.returns
returns c = legal-explained
