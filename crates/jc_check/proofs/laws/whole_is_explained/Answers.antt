use Rattle.jc_check.proofs.RecordedWholes.{whole-explained}
use Rattle.jc_check.proofs.laws.whole_is_explained.Goals as goal

pub returns : goal.returns
returns c = whole-explained
