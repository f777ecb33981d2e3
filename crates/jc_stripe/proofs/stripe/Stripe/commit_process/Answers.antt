use Rattle.std.proofs.Common.{refl, subst, inl, inr}
use Rattle.jc_model.specs.declared.event.Out.{Out}
use Rattle.jc_stripe.specs.declared.ticket.Reservation.{Reservation}
use Rattle.jc_stripe.specs.Phases.{with_reply}
use Rattle.jc_stripe.specs.Invalidating.{Ends}
use Rattle.jc_stripe.specs.Effects.{process_out}
use Rattle.jc_stripe.proofs.stripe.Stripe.commit_process.Goals as goal

ends : (c : goal.After-commit) → Ends c.args.self.now c.args.ticket.reservation (process_out c.args.done c.args.report) (with_reply c.commit.result c.commit.new.reply) c.commit.new.self
ends c =
    let P : Reservation × Out → Type 0 = λ x. Ends c.args.self.now x.0 x.1 (with_reply c.commit.result c.commit.new.reply) c.commit.new.self in
    let answers = c.into_answers-load.ensures in
    subst P (λ i. (c.spend.ensures i, record { load = answers.load i; write = c.report_answer-write.ensures.answer i; process = answers.process i })) c.commit.ensures

pub returns-clause-ends : goal.returns-clause-ends
returns-clause-ends c = ends c

pub returns-clause-phase : goal.returns-clause-phase
returns-clause-phase c =
    inr (inr (inl (record { reservation = c.args.ticket.reservation; out = process_out c.args.done c.args.report; done = (with_reply c.commit.result c.commit.new.reply); own = refl; ends = ends c })))
