use Rattle.jc_text.proofs.Spelling.{number_back, caller_back, value_back}
use Rattle.jc_text.proofs.laws.words_read_back.Goals as goal

pub returns-clause-numbers : goal.returns-clause-numbers
returns-clause-numbers c = number_back

pub returns-clause-callers : goal.returns-clause-callers
returns-clause-callers c = caller_back

pub returns-clause-values : goal.returns-clause-values
returns-clause-values c = value_back
