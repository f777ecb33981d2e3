use Rattle.jc_check.proofs.RecordedCalls.{legal-recorded}
use Rattle.jc_check.proofs.laws.legal_is_recorded.Goals as goal

pub returns : goal.returns
returns c = legal-recorded
