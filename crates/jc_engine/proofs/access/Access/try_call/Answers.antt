use Rattle.jc_engine.proofs.Common.{◌∙◌, ap, inl, inr, refl, subst, Started, with_reply, counts_after, counted_started, Alone, HasTried, StartWaits}
use Rattle.jc_stripe.specs.declared.begun.Started.TheVariants as started
use Rattle.jc_engine.specs.declared.first.BeginCall.{BeginCall}
use Rattle.jc_engine.proofs.Rounds.{fits_first, tried_by}
use Rattle.jc_engine.proofs.Unasked.{no_ticket, no_share}
use Rattle.jc_engine.proofs.access.Access.try_call.Goals as goal

pub try_lend-requires-clause-fits : goal.try_lend-requires-clause-fits
try_lend-requires-clause-fits g c = record {
  who_is = ap (λ first. first.caller.session) c.of-first.ensures;
  needs_it = λ a found. fits_first c.of-first.result c.args.self.now.agent.now.caller c.args.key c.args.op Alone a c.of-first.ensures (c.requires.begins a found);
}

pub unreachable-requires : goal.unreachable-requires
unreachable-requires g c =
    let made = tried_by g.G.Gate.takes g.G.Gate.gives g.G.Gate.finds g.G.Gate.misses c.args.self.now.agent.now.caller c.args.key c.args.op c.of-first.result _ (started.Asks c.in-Asks._ticket) c.try_lend.new.reply c.args.self.now.gate.now c.args.self.now.token.now c.try_lend.new.self.gate.now c.try_lend.new.self.token.now
    c.of-first.ensures c.in-Asks.is (c.in-Ok.ensures.made.1, c.in-Ok.ensures.made.2) in
    no_ticket made.lent.did.found made.lent.did.left c.args.self.now.agent.now.caller c.args.key.now c.args.op.now c.in-Asks._ticket (made.lent.did.made.alone refl) made.lent.did.made.first.begins

pub unreachable-requires-in-Joined : goal.unreachable-requires-in-Joined
unreachable-requires-in-Joined g c =
    let made = tried_by g.G.Gate.takes g.G.Gate.gives g.G.Gate.finds g.G.Gate.misses c.args.self.now.agent.now.caller c.args.key c.args.op c.of-first.result _ (started.Joined c.in-Joined._join) c.try_lend.new.reply c.args.self.now.gate.now c.args.self.now.token.now c.try_lend.new.self.gate.now c.try_lend.new.self.token.now
    c.of-first.ensures c.in-Joined.is (c.in-Ok.ensures.made.1, c.in-Ok.ensures.made.2) in
    no_share made.lent.did.found made.lent.did.left c.args.self.now.agent.now.caller c.args.key.now c.args.op.now c.in-Joined._join (made.lent.did.made.alone refl) made.lent.did.made.first.begins

pub returns-in-Done : goal.returns-in-Done
returns-in-Done g c = record {
  same = c.try_lend.ensures.ready.0;
  ready = c.try_lend.ensures.ready.1;
  agent =
      c.in-Ok.ensures.made.0
      ∙ ap (λ (s : Started). record c.args.self.now.agent.now { counts = counts_after c.args.self.now.agent.now.counts (counted_started s) }) c.in-Done.is;
  phase = (
    with_reply c.in-Done._step c.try_lend.new.reply,
    refl,
    tried_by g.G.Gate.takes g.G.Gate.gives g.G.Gate.finds g.G.Gate.misses c.args.self.now.agent.now.caller c.args.key c.args.op c.of-first.result _ (started.Done c.in-Done._step) c.try_lend.new.reply c.args.self.now.gate.now c.args.self.now.token.now c.try_lend.new.self.gate.now c.try_lend.new.self.token.now
        c.of-first.ensures c.in-Done.is (c.in-Ok.ensures.made.1, c.in-Ok.ensures.made.2),
  );
}

pub returns-in-Refused : goal.returns-in-Refused
returns-in-Refused g c = record {
  same = c.try_lend.ensures.ready.0;
  ready = c.try_lend.ensures.ready.1;
  agent =
      c.in-Ok.ensures.made.0
      ∙ ap (λ (s : Started). record c.args.self.now.agent.now { counts = counts_after c.args.self.now.agent.now.counts (counted_started s) }) c.in-Refused.is;
  phase = inl (tried_by g.G.Gate.takes g.G.Gate.gives g.G.Gate.finds g.G.Gate.misses c.args.self.now.agent.now.caller c.args.key c.args.op c.of-first.result _ (started.Refused c.in-Refused.refusal) c.try_lend.new.reply c.args.self.now.gate.now c.args.self.now.token.now c.try_lend.new.self.gate.now c.try_lend.new.self.token.now
      c.of-first.ensures c.in-Refused.is (c.in-Ok.ensures.made.1, c.in-Ok.ensures.made.2));
}

pub returns-in-Err : goal.returns-in-Err
returns-in-Err g c = record {
  same = c.try_lend.ensures.ready.0;
  ready = c.try_lend.ensures.ready.1;
  agent = c.in-Err.ensures.back.1;
  phase = inr (
    refl,
    subst (λ (p : BeginCall). HasTried g.G.Gate.takes g.G.Gate.gives g.G.Gate.finds g.G.Gate.misses c.args.self.now.agent.now.caller.session (StartWaits p.how p.caller p.key.now p.op.now) c.args.self.now.gate.now c.args.self.now.token.now c.try_lend.new.self.gate.now c.try_lend.new.self.token.now) c.of-first.ensures c.in-Err.ensures.back.2,
  );
}
