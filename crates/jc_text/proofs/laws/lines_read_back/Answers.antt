use Rattle.jc_text.proofs.SpelledLines.{line_back}
use Rattle.jc_text.proofs.ReadLines.{line_spelled}
use Rattle.jc_text.proofs.laws.lines_read_back.Goals as goal

pub returns-clause-back : goal.returns-clause-back
returns-clause-back c = line_back

pub returns-clause-alone : goal.returns-clause-alone
returns-clause-alone c = line_spelled
