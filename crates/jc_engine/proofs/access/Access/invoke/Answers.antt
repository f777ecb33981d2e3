use Rattle.jc_engine.proofs.Common.{rules, ◌∙◌, Err, sym, refl, ap, subst, Invoke, with_reply, TicketClaim, Processed, out_of, Waits, IsReported}
use Rattle.jc_stripe.specs.Outcomes as begun
use Rattle.jc_engine.proofs.AgentAfter.{session_asked, writer_stays}
use Rattle.jc_engine.proofs.Asked.{asked_since}
use Rattle.jc_engine.proofs.FromPhases.{asked_call, unasked_call}
use Rattle.jc_engine.proofs.Processing.{ran}
use Rattle.jc_engine.proofs.Rounds.{at_once, done_row, fits_first, starts_by}
use Rattle.jc_engine.proofs.Rows.{begun_since}
use Rattle.jc_engine.proofs.Unasked.{runs_processor, no_done, no_join}
use Rattle.jc_engine.proofs.access.Access.invoke.Goals as goal

pub lend-requires-clause-fits : goal.lend-requires-clause-fits
lend-requires-clause-fits g c = record {
  who_is = ap (λ first. first.caller.session) c.of-first.ensures;
  needs_it = λ a found. fits_first c.of-first.result c.args.self.now.agent.now.caller c.args.key _ Waits a c.of-first.ensures (c.requires.may.begins a found);
}

pub run-answer-requires-clause-unasked : goal.run-answer-requires-clause-unasked
run-answer-requires-clause-unasked g c =
    let h = starts_by g.G.Gate.takes g.G.Gate.gives g.G.Gate.finds c.args.self.now.agent.now.caller c.args.key _ c.args.self.now.agent.now.caller.session c.of-first.result c.args.self.now.agent.now.caller (begun.Asks c.in-Asks.ticket)
    c.args.self.now.gate.now c.args.self.now.token.now c.lend.new.self.gate.now c.lend.new.self.token.now refl refl c.of-first.ensures c.in-Asks.ensures.phase.0 in
    let begins = h.did.made.first.begins in
    (ap (λ (t : TicketClaim). t.asked) begins.4, ap (λ (t : TicketClaim). t.writer_asked) begins.4, runs_processor h.did.found h.did.left c.args.self.now.agent.now.caller c.args.key.now c.in-Asks.ticket begins)

pub run-answer-requires-clause-writer : goal.run-answer-requires-clause-writer
run-answer-requires-clause-writer g c = λ through.
    let h = starts_by g.G.Gate.takes g.G.Gate.gives g.G.Gate.finds c.args.self.now.agent.now.caller c.args.key _ c.args.self.now.agent.now.caller.session c.of-first.result c.args.self.now.agent.now.caller (begun.Asks c.in-Asks.ticket)
    c.args.self.now.gate.now c.args.self.now.token.now c.lend.new.self.gate.now c.lend.new.self.token.now refl refl c.of-first.ensures c.in-Asks.ensures.phase.0 in
    let x = at_once c.args.self.now.agent.now.caller c.args.key.now Invoke (begun.Asks c.in-Asks.ticket) h.row h.did in
    let first = begun_since g.G.Gate.takes g.G.Gate.gives g.G.Gate.finds c.one_lending.ensures c.args.self.now.agent.now.caller c.args.key.now Invoke _ c.args.self.now.gate.now c.args.self.now.token.now h.row c.lend.new.self.gate.now c.lend.new.self.token.now h.lent x in
    writer_stays c.args.self.now.agent.now c.lend.new.self.agent.now _ c.in-Asks.ensures.agent (c.requires.may.writes first.0 first.1 (c.requires.through first.0 first.1 ∙ through))

pub lend-requires-in-Asks-clause-ready : goal.lend-requires-in-Asks-clause-ready
lend-requires-in-Asks-clause-ready g c = record {
  held = c.run-answer.ensures.run.held;
  free = c.in-Asks.ensures.ready.free;
  speaks = subst (g.G.Gate.speaks_for c.lend.new.self.token.now) (sym (ap (λ a. a.caller.session) c.run-answer.ensures.run.rest)) c.in-Asks.ensures.ready.speaks;
}

pub lend-requires-in-Asks-clause-fits : goal.lend-requires-in-Asks-clause-fits
lend-requires-in-Asks-clause-fits g c =
    let h = starts_by g.G.Gate.takes g.G.Gate.gives g.G.Gate.finds c.args.self.now.agent.now.caller c.args.key _ c.args.self.now.agent.now.caller.session c.of-first.result c.args.self.now.agent.now.caller (begun.Asks c.in-Asks.ticket)
    c.args.self.now.gate.now c.args.self.now.token.now c.lend.new.self.gate.now c.lend.new.self.token.now refl refl c.of-first.ensures c.in-Asks.ensures.phase.0 in
    let x = at_once c.args.self.now.agent.now.caller c.args.key.now Invoke (begun.Asks c.in-Asks.ticket) h.row h.did in
    let d = c.run-answer.ensures.run in
    record {
      who_is = ap (λ r. r.caller.session) d.reservation
          ∙ ap (λ (t : TicketClaim). t.reservation.caller.session) h.did.made.first.begins.4
          ∙ sym (session_asked c.args.self.now.agent.now c.lend.new.self.agent.now c.run-answer.new.agent _ c.in-Asks.ensures.agent d.rest);
      needs_it = λ a found.
          let since = asked_since c.args.self.now.agent.now.caller c.args.key.now Invoke c.in-Asks.ticket h.row x g.G.Gate.takes g.G.Gate.gives g.G.Gate.finds c.one_lending.ensures c.args.self.now.gate.now c.args.self.now.token.now c.lend.new.self.gate.now c.lend.new.self.token.now h.lent a found in
          record {
            live = since.2.same.origin ∙ (c.requires.may.begins since.0 since.1).live;
            is_answered = d.answered;
            reported = subst (λ r. IsReported a.config r (Processed c.run-answer.result.done c.run-answer.result.report)) (sym d.reservation)
                (d.reported a.config (ap (λ c. c.write_through) since.2.same.config ∙ c.requires.through since.0 since.1));
          };
    }

pub unreachable-requires : goal.unreachable-requires
unreachable-requires g c =
    let h = starts_by g.G.Gate.takes g.G.Gate.gives g.G.Gate.finds c.args.self.now.agent.now.caller c.args.key _ c.args.self.now.agent.now.caller.session c.of-first.result c.args.self.now.agent.now.caller (begun.Done (with_reply c.in-Done._step c.lend.new.reply))
    c.args.self.now.gate.now c.args.self.now.token.now c.lend.new.self.gate.now c.lend.new.self.token.now refl refl c.of-first.ensures c.in-Done.ensures.phase.0 in
    no_done h.did.found h.did.left c.args.self.now.agent.now.caller c.args.key.now (with_reply c.in-Done._step c.lend.new.reply) h.did.made.first.begins

pub unreachable-requires-in-Joined : goal.unreachable-requires-in-Joined
unreachable-requires-in-Joined g c =
    let h = starts_by g.G.Gate.takes g.G.Gate.gives g.G.Gate.finds c.args.self.now.agent.now.caller c.args.key _ c.args.self.now.agent.now.caller.session c.of-first.result c.args.self.now.agent.now.caller (begun.Joined c.in-Joined._join)
    c.args.self.now.gate.now c.args.self.now.token.now c.lend.new.self.gate.now c.lend.new.self.token.now refl refl c.of-first.ensures c.in-Joined.ensures.phase.0 in
    no_join h.did.found h.did.left c.args.self.now.agent.now.caller c.args.key.now c.in-Joined._join h.did.made.first.begins

pub returns-in-Refused-clause-call : goal.returns-in-Refused-clause-call
returns-in-Refused-clause-call g c = record {
  same = search rules;
  ready = c.lend.ensures.ready;
  call =
      let h = starts_by g.G.Gate.takes g.G.Gate.gives g.G.Gate.finds c.args.self.now.agent.now.caller c.args.key _ c.args.self.now.agent.now.caller.session c.of-first.result c.args.self.now.agent.now.caller (begun.Refused c.in-Refused.refusal)
      c.args.self.now.gate.now c.args.self.now.token.now c.lend.new.self.gate.now c.lend.new.self.token.now refl refl c.of-first.ensures c.in-Refused.ensures.phase.0 in
      record {
        call = unasked_call _ _ _ _ g.G.Gate.takes g.G.Gate.gives g.G.Gate.finds c.args.self.now.agent.now c.lend.new.self.agent.now c.args.key.now Invoke c.args.self.now.gate.now c.args.self.now.token.now h.row (Err c.in-Refused.refusal) c.lend.new.self.gate.now c.lend.new.self.token.now h.lent
            (done_row c.args.self.now.agent.now.caller c.args.key.now Invoke (begun.Refused c.in-Refused.refusal) (Err c.in-Refused.refusal) h.row (at_once c.args.self.now.agent.now.caller c.args.key.now Invoke (begun.Refused c.in-Refused.refusal) h.row h.did) (refl, refl, refl))
            c.in-Refused.ensures.agent c.requires.ready.held;
        run = refl;
        type = refl;
      };
}

pub returns-in-Asks-clause-call : goal.returns-in-Asks-clause-call
returns-in-Asks-clause-call g c = record {
  same = search rules;
  ready = c.lend-in-Asks.ensures.ready;
  call =
      let h = starts_by g.G.Gate.takes g.G.Gate.gives g.G.Gate.finds c.args.self.now.agent.now.caller c.args.key _ c.args.self.now.agent.now.caller.session c.of-first.result c.args.self.now.agent.now.caller (begun.Asks c.in-Asks.ticket)
      c.args.self.now.gate.now c.args.self.now.token.now c.lend.new.self.gate.now c.lend.new.self.token.now refl refl c.of-first.ensures c.in-Asks.ensures.phase.0 in
      let x = at_once c.args.self.now.agent.now.caller c.args.key.now Invoke (begun.Asks c.in-Asks.ticket) h.row h.did in
      let first = begun_since g.G.Gate.takes g.G.Gate.gives g.G.Gate.finds c.one_lending.ensures c.args.self.now.agent.now.caller c.args.key.now Invoke _ c.args.self.now.gate.now c.args.self.now.token.now h.row c.lend.new.self.gate.now c.lend.new.self.token.now h.lent x in
      let d = c.run-answer.ensures.run in
      record {
        call = asked_call _ _ _ _ g.G.Gate.takes g.G.Gate.gives g.G.Gate.finds c.run-answer.new.agent.caller.session c.args.self.now.agent.now c.lend.new.self.agent.now c.run-answer.new.agent c.lend-in-Asks.new.self.agent.now c.args.key.now Invoke c.args.self.now.gate.now c.args.self.now.token.now c.in-Asks.ticket h.row
            c.lend.new.self.gate.now c.lend.new.self.token.now c.run-answer.new.ticket.reservation (out_of (Processed c.run-answer.result.done c.run-answer.result.report)) (with_reply c.lend-in-Asks.result c.lend-in-Asks.new.reply) c.lend-in-Asks.new.self.gate.now c.lend-in-Asks.new.self.token.now h.lent x c.lend-in-Asks.ensures.phase.0
            (session_asked c.args.self.now.agent.now c.lend.new.self.agent.now c.run-answer.new.agent _ c.in-Asks.ensures.agent d.rest) d.reservation
            c.requires.may.reservations c.in-Asks.ensures.agent d.rest d.held c.lend-in-Asks.ensures.agent
            d.loader (rw (ap (λ c. c.write_through) first.2.same.config, c.requires.through first.0 first.1) d.writer) d.types;
        run = ran (λ b. (goal.EntryProcessor-dyn g (b.vtable, b.value)).processes b.value) (λ b. (goal.EntryProcessor-dyn g (b.vtable, b.value)).process_state b.value) h.did.found c.args.key.now c.in-Asks.ticket.reservation.key c.args.invocation.now.args.now c.in-Asks.ticket.reservation.first _ _ c.args.invocation.now.processor.now c.run-answer.new.invocation.processor.now
            h.did.made.first.begins.2 (ap (λ (t : TicketClaim). t.reservation.key) h.did.made.first.begins.4) d.given d.run;
        type = d.type;
      };
}
