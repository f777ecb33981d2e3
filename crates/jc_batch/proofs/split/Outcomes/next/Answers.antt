use Rattle.std.proofs.Common.{sym, subst, ◌∷◌, ◌∙◌}
use Rattle.std.specs.Cmp.Lexicographic.{same_text}
use Rattle.jc_batch.specs.Splitting.{AreOutcomes}
use Rattle.jc_batch.proofs.Reading.{next_written}
use Rattle.jc_batch.proofs.split.Outcomes.next.Goals as goal

pub returns-then-eq-clause-next : goal.returns-then-eq-clause-next
returns-then-eq-clause-next c = λ left fault keys are.
    next_written left fault c.args.key.now keys c.in-Some.first.now c.in-Some.others.now c.args.self.now.failed.now
    (subst (λ w. AreOutcomes left fault (c.args.key.now ∷ keys) w c.args.self.now.failed.now) c.in-Some.ensures.cases.0 are)
    (same_text c.in-Some.first.now c.args.key.now (sym c.if-eq.true ∙ c.eq.ensures))
