use Rattle.std.proofs.Common.{subst}
use Rattle.jc_check.specs.Verdict.{IsVerdict}
use Rattle.jc_check.proofs.reasons.reason_of.Goals as goal

pub returns-in-Refuted : goal.returns-in-Refuted
returns-in-Refuted c =
    let refuted = subst (IsVerdict c.args.rules.now c.args.calls.now c.args.opening.now c.args.budget) c.in-Refuted.is c.in_ok-states.ensures in
    record {
      must = c.in-Some.ensures;
      could = c.in_ok-spots-in-Refuted.ensures c.args.opening.now refuted.closed c.in-Some.ensures;
    }
