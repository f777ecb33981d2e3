use Rattle.jc_world.proofs.Common.{refl, sym, ap, ◌∙◌, subst, Ends, IsOut, Reservation, Part, IsDue, is_all_answered, out_of_part, with_report, is_misled, is_true_report, has_changed}
use Rattle.jc_stripe.specs.Phases.{with_reply}
use Rattle.jc_model.specs.declared.event.WriteAnswer.TheVariants.{Failed}
use Rattle.jc_world.proofs.Committing.{answered_failed, due_told, due_heard}
use Rattle.jc_world.proofs.held.HeldKey.commit_failed.Goals as goal

pub report-is_changed-requires-clause-waits : goal.report-is_changed-requires-clause-waits
report-is_changed-requires-clause-waits c = c.requires.waits

pub report-is_changed-requires-clause-given : goal.report-is_changed-requires-clause-given
report-is_changed-requires-clause-given c = refl

pub commit-step-requires : goal.commit-step-requires
commit-step-requires c =
    let told = c.report-is_changed.ensures.report in
    record {
      out = subst (λ (p : Part). IsOut c.args.stripe.now p.reservation) (sym told) c.requires.out;
      answered = ap is_all_answered told ∙ answered_failed c.args.self 0;
      origin = c.requires.origin;
      due = subst (IsDue c.args.stripe.now.config) (sym told) (due_heard c.args.stripe.now.config c.args.self.reservation.first (with_report c.args.self.progress (Failed 0)) (is_misled c.args.self) (is_true_report (Failed 0) (has_changed c.args.self))
          (due_told c.args.stripe.now.config c.args.self.reservation.first c.args.self.progress (Failed 0) c.requires.due));
    }

pub returns : goal.returns
returns c =
    let out = out_of_part c.report-is_changed.new.self in
    let r = ap (λ (p : Part). p.reservation) c.report-is_changed.ensures.report in
    (out, (with_reply c.commit-step.result c.commit-step.new.reply), subst (λ (r : Reservation). Ends c.args.stripe.now r out (with_reply c.commit-step.result c.commit-step.new.reply) c.commit-step.new.stripe) r c.commit-step.ensures)
