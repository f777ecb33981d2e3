use Rattle.jc_engine.proofs.Common.{inl, inr, refl, load_only, with_reply}
use Rattle.jc_engine.proofs.ending.LoadDoneAskAnswer.commit.Goals as goal

pub returns-clause-counted : goal.returns-clause-counted
returns-clause-counted c = inr (inr (inl (
  record { reservation = c.args.ticket.reservation; out = load_only c.args.self.answer; done = with_reply c.commit_load.result c.commit_load.new.reply; own = refl; ends = c.commit_load.ensures.ends },
  refl,
)))
