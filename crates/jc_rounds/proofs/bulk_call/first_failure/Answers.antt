use Rattle.jc_rounds.proofs.Common.{sym, ap, ◌∙◌, failure_at}
use Rattle.jc_rounds.proofs.Failures.{first_there, none_failed}
use Rattle.jc_rounds.proofs.bulk_call.first_failure.Goals as goal

pub returns-in-Some : goal.returns-in-Some
returns-in-Some c =
    first_there c.args.progress.now c.loop-one.one-index c.one-item.result c.in-Some.refusal c.loop-one-test.true (ap failure_at (sym c.one-item.is) ∙ sym c.failure.ensures ∙ c.in-Some.is) c.loop-one.invariant

pub loop-one-preserved : goal.loop-one-preserved
loop-one-preserved c =
    none_failed c.args.progress.now c.loop-one.one-index c.one-item.result c.loop-one-test.true (ap failure_at (sym c.one-item.is) ∙ sym c.failure.ensures ∙ c.in_default.is) c.loop-one.invariant
