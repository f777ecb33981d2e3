use Rattle.jc_engine.proofs.Common.{rules, ◌∙◌, Ok, Option, Some, refl, sym, ap, subst, TicketClaim, Enters, counts_entered}
use Rattle.jc_engine.proofs.AgentAfter.{writer_stays}
use Rattle.jc_engine.proofs.Asked.{asked_since, of_caller}
use Rattle.jc_engine.proofs.FromPhases.{asked_call}
use Rattle.jc_engine.proofs.Rows.{begun_since}
use Rattle.jc_engine.proofs.Unasked.{asks_one}
use Rattle.jc_engine.proofs.Wanted.{writes_through, wanted_is_asked}
use Rattle.jc_engine.proofs.access.Access.call.Goals as goal

pub ask_and_end-requires-clause-first : goal.ask_and_end-requires-clause-first
ask_and_end-requires-clause-first g c =
    let x : Enters g.G.Gate.takes g.G.Gate.gives g.G.Gate.finds c.args.self.now.agent.now.caller c.args.key.now c.args.op.now c.args.self.now.gate.now c.args.self.now.token.now (Ok (Some c.in-Ok-Some.ticket)) c.enter.new.reply c.enter.new.self.gate.now c.enter.new.self.token.now =
    subst (λ (o : Option TicketClaim). Enters g.G.Gate.takes g.G.Gate.gives g.G.Gate.finds c.args.self.now.agent.now.caller c.args.key.now c.args.op.now c.args.self.now.gate.now c.args.self.now.token.now (Ok o) c.enter.new.reply c.enter.new.self.gate.now c.enter.new.self.token.now) c.in-Ok-Some.field-0-is c.in-Ok-Some.ensures.phase in
    let s = x.did.starts in
    asks_one s.found s.left c.args.self.now.agent.now.caller c.args.key.now c.args.op.now c.in-Ok-Some.ticket c.requires.op s.made.first.begins

pub ask_and_end-requires-clause-may : goal.ask_and_end-requires-clause-may
ask_and_end-requires-clause-may g c =
    let caller = c.args.self.now.agent.now.caller in
    let ticket = c.in-Ok-Some.ticket in
    let x : Enters g.G.Gate.takes g.G.Gate.gives g.G.Gate.finds caller c.args.key.now c.args.op.now c.args.self.now.gate.now c.args.self.now.token.now (Ok (Some ticket)) c.enter.new.reply c.enter.new.self.gate.now c.enter.new.self.token.now =
    subst (λ (o : Option TicketClaim). Enters g.G.Gate.takes g.G.Gate.gives g.G.Gate.finds caller c.args.key.now c.args.op.now c.args.self.now.gate.now c.args.self.now.token.now (Ok o) c.enter.new.reply c.enter.new.self.gate.now c.enter.new.self.token.now) c.in-Ok-Some.field-0-is c.in-Ok-Some.ensures.phase in
    let first = begun_since g.G.Gate.takes g.G.Gate.gives g.G.Gate.finds c.one_lending.ensures caller c.args.key.now c.args.op.now _ c.args.self.now.gate.now c.args.self.now.token.now x.row c.enter.new.self.gate.now c.enter.new.self.token.now x.lent x.did in
    let begins = x.did.starts.made.first.begins in
    record {
      unasked = ap (λ (t : TicketClaim). t.asked) begins.4;
      who = ap (λ w. w.session) (of_caller caller c.args.key.now c.args.op.now ticket x.row x.did).0 ∙ sym (ap (λ a. a.caller.session) c.in-Ok-Some.ensures.agent);
      live = λ a found.
          let since = asked_since caller c.args.key.now c.args.op.now ticket x.row x.did g.G.Gate.takes g.G.Gate.gives g.G.Gate.finds c.one_lending.ensures c.args.self.now.gate.now c.args.self.now.token.now c.enter.new.self.gate.now c.enter.new.self.token.now x.lent a found in
          since.2.same.origin ∙ (c.requires.may.begins since.0 since.1).live;
      writes = λ asks. writer_stays c.args.self.now.agent.now c.enter.new.self.agent.now _ c.in-Ok-Some.ensures.agent
          (c.requires.may.writes first.0 first.1 (sym (ap (λ c. c.write_through) first.2.same.config) ∙ writes_through x.did.starts.found.config _ _ _ begins.2 asks));
    }

pub returns-in-Ok-Some : goal.returns-in-Ok-Some
returns-in-Ok-Some g c = record {
  same = search rules;
  ready = c.ask_and_end.ensures.ready;
  call =
      let caller = c.args.self.now.agent.now.caller in
      let ticket = c.in-Ok-Some.ticket in
      let x : Enters g.G.Gate.takes g.G.Gate.gives g.G.Gate.finds caller c.args.key.now c.args.op.now c.args.self.now.gate.now c.args.self.now.token.now (Ok (Some ticket)) c.enter.new.reply c.enter.new.self.gate.now c.enter.new.self.token.now =
      subst (λ (o : Option TicketClaim). Enters g.G.Gate.takes g.G.Gate.gives g.G.Gate.finds caller c.args.key.now c.args.op.now c.args.self.now.gate.now c.args.self.now.token.now (Ok o) c.enter.new.reply c.enter.new.self.gate.now c.enter.new.self.token.now) c.in-Ok-Some.field-0-is c.in-Ok-Some.ensures.phase in
      let d = c.ask_and_end.ensures.call in
      rw (← d.replies) (asked_call _ _ _ _ g.G.Gate.takes g.G.Gate.gives g.G.Gate.finds c.enter.new.self.agent.now.caller.session c.args.self.now.agent.now c.enter.new.self.agent.now d.asked c.ask_and_end.new.self.agent.now c.args.key.now c.args.op.now c.args.self.now.gate.now c.args.self.now.token.now ticket x.row c.enter.new.self.gate.now c.enter.new.self.token.now
      ticket.reservation d.out d.done c.ask_and_end.new.self.gate.now c.ask_and_end.new.self.token.now
      x.lent x.did d.phase (ap (λ a. a.caller.session) c.in-Ok-Some.ensures.agent) refl
      c.requires.may.reservations
      (c.in-Ok-Some.ensures.agent ∙ ap (λ (o : Option TicketClaim). record c.args.self.now.agent.now { counts = counts_entered c.args.self.now.agent.now.counts (Ok o) }) c.in-Ok-Some.field-0-is)
      d.rest d.held d.last
      d.loader (d.writer _ (λ asks. wanted_is_asked x.did.starts.found.config c.args.op.now _ _ _ d.process x.did.starts.made.first.begins.2 asks)) d.types);
}
