use Rattle.jc_record.proofs.judge.judged.Goals as goal

pub returns : goal.returns
returns c = (c.if-case.false, c.in_ok-verdict.ensures)
