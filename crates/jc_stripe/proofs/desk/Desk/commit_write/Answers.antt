use Rattle.std.proofs.Common.{sym, subst}
use Rattle.jc_model.specs.declared.event.Out.{Out}
use Rattle.jc_stripe.specs.DeskPhases.{AnswersTicket}
use Rattle.jc_stripe.proofs.DeskAnswers.{takes_write_answers}
use Rattle.jc_stripe.proofs.desk.Desk.commit_write.Goals as goal

pub commit-requires : goal.commit-requires
commit-requires c =
    subst (λ (o : Out). AnswersTicket c.args.self.now.stripe c.args.number o) (sym c.write_only.ensures)
    (takes_write_answers c.args.self.now.stripe c.args.number c.args.answer (sym c.if-not-takes_write.ensures))
