use Rattle.jc_engine.proofs.Common.{inl, inr, refl, write_only, with_reply}
use Rattle.jc_engine.proofs.ending.WriteDoneAskAnswer.commit.Goals as goal

pub returns-clause-counted : goal.returns-clause-counted
returns-clause-counted c = inr (inr (inl (
  record { reservation = c.args.ticket.reservation; out = write_only c.args.self.answer; done = with_reply c.commit_write.result c.commit_write.new.reply; own = refl; ends = c.commit_write.ensures.ends },
  refl,
)))
