use Rattle.jc_engine.proofs.Common.{inl, inr, refl, with_reply}
use Rattle.jc_stripe.specs.Effects.{process_out}
use Rattle.jc_engine.proofs.ending.ProcessedAnswer.commit.Goals as goal

pub returns-clause-counted : goal.returns-clause-counted
returns-clause-counted c = inr (inr (inl (
  record { reservation = c.args.ticket.reservation; out = process_out c.args.self.done c.args.self.report; done = with_reply c.commit_process.result c.commit_process.new.reply; own = refl; ends = c.commit_process.ensures.ends },
  refl,
)))
