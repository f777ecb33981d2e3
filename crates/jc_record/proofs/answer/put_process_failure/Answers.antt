use Rattle.jc_record.specs.Answers.{process_failure_text}
use Rattle.jc_record.proofs.answer.put_process_failure.Goals as goal

pub returns : goal.returns
unfolding process_failure_text
returns c = c.in_ok-put_coded.ensures
