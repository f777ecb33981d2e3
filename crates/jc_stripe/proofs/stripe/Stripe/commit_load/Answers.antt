use Rattle.std.proofs.Common.{◌∙◌, ap, refl, subst, inl, inr}
use Rattle.jc_model.specs.declared.event.Out.{Out}
use Rattle.jc_model.specs.Group.{load_only}
use Rattle.jc_stripe.specs.declared.ticket.Reservation.{Reservation}
use Rattle.jc_stripe.specs.Phases.{with_reply}
use Rattle.jc_stripe.specs.Invalidating.{Ends}
use Rattle.jc_stripe.proofs.stripe.Stripe.commit_load.Goals as goal

ends : (c : goal.After-commit) → Ends c.args.self.now c.args.ticket.reservation (load_only c.args.done.answer) (with_reply c.commit.result c.commit.new.reply) c.commit.new.self
ends c =
    let P : Reservation × Out → Type 0 = λ x. Ends c.args.self.now x.0 x.1 (with_reply c.commit.result c.commit.new.reply) c.commit.new.self in
    subst P (λ i. (c.spend.ensures i, (c.load_only.ensures ∙ ap load_only c.into_answer.ensures.answer) i)) c.commit.ensures

pub returns-clause-ends : goal.returns-clause-ends
returns-clause-ends c = ends c

pub returns-clause-phase : goal.returns-clause-phase
returns-clause-phase c =
    inr (inr (inl (record {
      reservation = c.args.ticket.reservation;
      out = load_only c.args.done.answer;
      done = with_reply c.commit.result c.commit.new.reply;
      own = refl;
      ends = ends c;
    })))
