use Rattle.std.proofs.Common.{subst}
use Rattle.jc_check.specs.Verdict.{IsVerdict}
use Rattle.jc_check.proofs.smallest.trial_of.Goals as goal

pub returns-in-Stopped : goal.returns-in-Stopped
returns-in-Stopped c rules calls opening limit is = (c.in-Stopped.field-0, subst (IsVerdict rules calls opening limit) c.in-Stopped.is is)
