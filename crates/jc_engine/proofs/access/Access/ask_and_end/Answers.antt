use Rattle.jc_engine.proofs.Common.{◌∙◌, ap, sym, with_reply, asks_loader, asks_writer}
use Rattle.jc_engine.proofs.Asking.{loader_asked, writer_asked}
use Rattle.jc_engine.proofs.FromPhases.{asked_ends}
use Rattle.jc_engine.proofs.access.Access.ask_and_end.Goals as goal

pub returns-in-Loader : goal.returns-in-Loader
returns-in-Loader g c = record {
  same = record { gate = c.lend.ensures.same.gate; token = c.lend.ensures.same.token; agent = c.lend.ensures.same.agent };
  ready = c.lend.ensures.ready;
  call =
      let first = sym (ap (λ r. asks_loader r.first) c.reservation.ensures) ∙ ap asks_loader c.in-Loader.is in
      asked_ends _ _ _ _ g.G.Gate.takes g.G.Gate.gives g.G.Gate.finds c.args.self.now.agent.now c.ask_loader-answer.new.self c.lend.new.self.agent.now c.args.ticket c.ask.new.self _ (with_reply c.lend.result c.lend.new.reply) c.args.self.now.gate.now c.args.self.now.token.now c.lend.new.self.gate.now c.lend.new.self.token.now
      (loader_asked _ _ _ _ c.args.self.now.agent.now c.ask_loader-answer.new.self c.args.ticket c.ask.new.self c.ask.result c.ask_loader-answer.result first c.ask.ensures.ask c.ask.ensures.asked c.ask_loader-answer.ensures)
      c.lend.ensures.agent c.lend.ensures.phase.0;
}

pub returns-in-Writer : goal.returns-in-Writer
returns-in-Writer g c = record {
  same = record { gate = c.lend-in-Writer.ensures.same.gate; token = c.lend-in-Writer.ensures.same.token; agent = c.lend-in-Writer.ensures.same.agent };
  ready = c.lend-in-Writer.ensures.ready;
  call =
      let first = sym (ap (λ r. asks_writer r.first) c.reservation.ensures) ∙ ap asks_writer c.in-Writer.is in
      asked_ends _ _ _ _ g.G.Gate.takes g.G.Gate.gives g.G.Gate.finds c.args.self.now.agent.now c.ask_writer-answer.new.self c.lend-in-Writer.new.self.agent.now c.args.ticket c.ask-in-Writer.new.self _ (with_reply c.lend-in-Writer.result c.lend-in-Writer.new.reply) c.args.self.now.gate.now c.args.self.now.token.now c.lend-in-Writer.new.self.gate.now c.lend-in-Writer.new.self.token.now
      (writer_asked _ _ _ _ c.args.self.now.agent.now c.ask_writer-answer.new.self c.args.ticket c.ask-in-Writer.new.self c.ask-in-Writer.result c.ask_writer-answer.result first c.ask-in-Writer.ensures.ask c.ask-in-Writer.ensures.asked c.ask_writer-answer.ensures)
      c.lend-in-Writer.ensures.agent c.lend-in-Writer.ensures.phase.0;
}
