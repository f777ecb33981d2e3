use Rattle.std.proofs.Common.{sym, subst}
use Rattle.jc_model.specs.declared.event.Out.{Out}
use Rattle.jc_stripe.specs.DeskPhases.{AnswersTicket}
use Rattle.jc_stripe.proofs.DeskAnswers.{takes_load_answers}
use Rattle.jc_stripe.proofs.desk.Desk.commit_load.Goals as goal

pub commit-requires : goal.commit-requires
commit-requires c =
    subst (λ (o : Out). AnswersTicket c.args.self.now.stripe c.args.number o) (sym c.load_only.ensures)
    (takes_load_answers c.args.self.now.stripe c.args.number c.args.answer (sym c.if-not-takes_load.ensures))
