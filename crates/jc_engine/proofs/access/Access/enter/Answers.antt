use Rattle.jc_engine.proofs.Common.{rules, ◌∙◌, sym, refl, ap, subst, OnTrue_at, OnFalse_at, Caller, with_reply, JoinClaim, Nothing, Reserved, BeginsIfClear, Waits}
use Rattle.jc_stripe.specs.Outcomes as begun
use Rattle.jc_session.specs.declared.counts.Counted.TheVariants.{Step}
use Rattle.jc_engine.proofs.AgentAfter.{session_is, session_joined, after_begun, after_answer, after_retry}
use Rattle.jc_engine.proofs.Rounds.{begun_by, done_row, fits_first, needs_on, rounds_on, rounds_start, shared_row, starts_by}
use Rattle.jc_engine.proofs.access.Access.enter.Goals as goal

pub loop-init : goal.loop-init
loop-init g c = record {
  same = record { gate = refl; token = refl; agent = refl };
  agent = refl;
  ready = c.requires.ready;
  so = rounds_start g.G.Gate.takes g.G.Gate.gives g.G.Gate.finds c.args.self.now.agent.now.caller c.args.key.now c.args.op.now c.args.self.now.gate.now c.args.self.now.token.now;
}

pub lend-requires-clause-ready : goal.lend-requires-clause-ready
lend-requires-clause-ready g c = c.loop.invariant.ready

pub lend-requires-clause-fits : goal.lend-requires-clause-fits
lend-requires-clause-fits g c = record {
  who_is = ap (λ first. first.caller.session) c.of-first.ensures;
  needs_it = λ a found. fits_first c.of-first.result c.loop.self.agent.now.caller c.args.key c.args.op Waits a c.of-first.ensures (subst (λ (who : Caller). BeginsIfClear who c.args.key.now a) (sym (ap (λ a. a.caller) c.loop.invariant.agent))
      (needs_on g.G.Gate.takes g.G.Gate.gives g.G.Gate.finds c.args.self.now.agent.now.caller c.args.key.now c.args.op.now c.one_lending.ensures c.args.self.now.gate.now c.args.self.now.token.now c.loop.self.gate.now c.loop.self.token.now c.loop.invariant.so c.requires.may.begins a found));
}

pub returns-in-Done : goal.returns-in-Done
returns-in-Done g c = record {
  same = search rules;
  ready = c.in-Done.ensures.ready;
  agent = after_begun c.args.self.now.agent.now c.loop.self.agent.now c.lend.new.self.agent.now Step c.loop.invariant.agent c.in-Done.ensures.agent;
  phase =
      let x = starts_by g.G.Gate.takes g.G.Gate.gives g.G.Gate.finds c.args.self.now.agent.now.caller c.args.key c.args.op c.loop.self.agent.now.caller.session c.of-first.result c.loop.self.agent.now.caller (begun.Done (with_reply c.in-Done._step c.lend.new.reply)) c.loop.self.gate.now c.loop.self.token.now c.lend.new.self.gate.now c.lend.new.self.token.now
      (session_is c.args.self.now.agent.now c.loop.self.agent.now c.loop.invariant.agent) (ap (λ a. a.caller) c.loop.invariant.agent) c.of-first.ensures c.in-Done.ensures.phase.0 in
      let start = begun_by g.G.Gate.takes g.G.Gate.gives g.G.Gate.finds c.args.self.now.agent.now.caller c.args.key.now c.args.op.now (begun.Done (with_reply c.in-Done._step c.lend.new.reply)) c.args.self.now.gate.now c.args.self.now.token.now c.loop.self.gate.now c.loop.self.token.now c.lend.new.self.gate.now c.lend.new.self.token.now c.loop.invariant.so x in
      record { row = start.0; lent = start.1; did = done_row c.args.self.now.agent.now.caller c.args.key.now c.args.op.now (begun.Done (with_reply c.in-Done._step c.lend.new.reply)) _ start.0 start.2 (refl, refl, refl) };
}

pub returns-in-Refused : goal.returns-in-Refused
returns-in-Refused g c = record {
  same = search rules;
  ready = c.in-Refused.ensures.ready;
  agent = after_begun c.args.self.now.agent.now c.loop.self.agent.now c.lend.new.self.agent.now Nothing c.loop.invariant.agent c.in-Refused.ensures.agent;
  phase =
      let x = starts_by g.G.Gate.takes g.G.Gate.gives g.G.Gate.finds c.args.self.now.agent.now.caller c.args.key c.args.op c.loop.self.agent.now.caller.session c.of-first.result c.loop.self.agent.now.caller (begun.Refused c.in-Refused.refusal) c.loop.self.gate.now c.loop.self.token.now c.lend.new.self.gate.now c.lend.new.self.token.now
      (session_is c.args.self.now.agent.now c.loop.self.agent.now c.loop.invariant.agent) (ap (λ a. a.caller) c.loop.invariant.agent) c.of-first.ensures c.in-Refused.ensures.phase.0 in
      let start = begun_by g.G.Gate.takes g.G.Gate.gives g.G.Gate.finds c.args.self.now.agent.now.caller c.args.key.now c.args.op.now (begun.Refused c.in-Refused.refusal) c.args.self.now.gate.now c.args.self.now.token.now c.loop.self.gate.now c.loop.self.token.now c.lend.new.self.gate.now c.lend.new.self.token.now c.loop.invariant.so x in
      record { row = start.0; lent = start.1; did = done_row c.args.self.now.agent.now.caller c.args.key.now c.args.op.now (begun.Refused c.in-Refused.refusal) _ start.0 start.2 (refl, refl, refl) };
}

pub returns-in-Asks : goal.returns-in-Asks
returns-in-Asks g c = record {
  same = search rules;
  ready = c.in-Asks.ensures.ready;
  agent = after_begun c.args.self.now.agent.now c.loop.self.agent.now c.lend.new.self.agent.now Reserved c.loop.invariant.agent c.in-Asks.ensures.agent;
  phase =
      let x = starts_by g.G.Gate.takes g.G.Gate.gives g.G.Gate.finds c.args.self.now.agent.now.caller c.args.key c.args.op c.loop.self.agent.now.caller.session c.of-first.result c.loop.self.agent.now.caller (begun.Asks c.in-Asks.ticket) c.loop.self.gate.now c.loop.self.token.now c.lend.new.self.gate.now c.lend.new.self.token.now
      (session_is c.args.self.now.agent.now c.loop.self.agent.now c.loop.invariant.agent) (ap (λ a. a.caller) c.loop.invariant.agent) c.of-first.ensures c.in-Asks.ensures.phase.0 in
      let start = begun_by g.G.Gate.takes g.G.Gate.gives g.G.Gate.finds c.args.self.now.agent.now.caller c.args.key.now c.args.op.now (begun.Asks c.in-Asks.ticket) c.args.self.now.gate.now c.args.self.now.token.now c.loop.self.gate.now c.loop.self.token.now c.lend.new.self.gate.now c.lend.new.self.token.now c.loop.invariant.so x in
      record { row = start.0; lent = start.1; did = start.2 };
}

pub pick_up-requires-clause-who : goal.pick_up-requires-clause-who
pick_up-requires-clause-who g c =
    ap (λ (j : JoinClaim). j.caller.session) c.in-Joined.ensures.phase.0.did.made.first.begins.2
    ∙ ap (λ first. first.caller.session) c.of-first.ensures
    ∙ session_is c.args.self.now.agent.now c.loop.self.agent.now c.loop.invariant.agent
    ∙ sym (session_joined c.args.self.now.agent.now c.loop.self.agent.now c.lend.new.self.agent.now c.loop.invariant.agent c.in-Joined.ensures.agent)

pub returns-then-pick_up : goal.returns-then-pick_up
returns-then-pick_up g c = record {
  same = search rules;
  ready = (OnTrue_at c.if-pick_up.true c.pick_up.ensures.answered).ready;
  agent = after_answer c.args.self.now.agent.now c.loop.self.agent.now c.lend.new.self.agent.now c.pick_up.new.self.agent.now c.requires.may.joins c.loop.invariant.agent c.in-Joined.ensures.agent (OnTrue_at c.if-pick_up.true c.pick_up.ensures.answered).agent;
  phase =
      let x = starts_by g.G.Gate.takes g.G.Gate.gives g.G.Gate.finds c.args.self.now.agent.now.caller c.args.key c.args.op c.loop.self.agent.now.caller.session c.of-first.result c.loop.self.agent.now.caller (begun.Joined c.in-Joined.join) c.loop.self.gate.now c.loop.self.token.now c.lend.new.self.gate.now c.lend.new.self.token.now
      (session_is c.args.self.now.agent.now c.loop.self.agent.now c.loop.invariant.agent) (ap (λ a. a.caller) c.loop.invariant.agent) c.of-first.ensures c.in-Joined.ensures.phase.0 in
      let answer = (OnTrue_at c.if-pick_up.true c.pick_up.ensures.answered).phase in
      let whole = shared_row g.G.Gate.takes g.G.Gate.gives g.G.Gate.finds c.args.self.now.agent.now.caller c.args.key.now c.args.op.now c.args.self.now.gate.now c.args.self.now.token.now c.loop.self.gate.now c.loop.self.token.now c.in-Joined.join c.lend.new.self.gate.now c.lend.new.self.token.now c.lend.new.self.agent.now.caller.session c.pick_up.new.reply answer.0 answer.1 c.pick_up.new.self.gate.now c.pick_up.new.self.token.now c.loop.invariant.so x
      (session_joined c.args.self.now.agent.now c.loop.self.agent.now c.lend.new.self.agent.now c.loop.invariant.agent c.in-Joined.ensures.agent) answer.2 in
      record { row = whole.0; lent = whole.1; did = whole.2 };
}

pub loop-preserved : goal.loop-preserved
loop-preserved g c =
    let x = starts_by g.G.Gate.takes g.G.Gate.gives g.G.Gate.finds c.args.self.now.agent.now.caller c.args.key c.args.op c.loop.self.agent.now.caller.session c.of-first.result c.loop.self.agent.now.caller (begun.Joined c.in-Joined.join) c.loop.self.gate.now c.loop.self.token.now c.lend.new.self.gate.now c.lend.new.self.token.now
    (session_is c.args.self.now.agent.now c.loop.self.agent.now c.loop.invariant.agent) (ap (λ a. a.caller) c.loop.invariant.agent) c.of-first.ensures c.in-Joined.ensures.phase.0 in
    record {
      same = search rules;
      agent = after_retry c.args.self.now.agent.now c.loop.self.agent.now c.lend.new.self.agent.now c.pick_up.new.self.agent.now c.requires.may.joins c.loop.invariant.agent c.in-Joined.ensures.agent (OnFalse_at c.if-pick_up.false c.pick_up.ensures.again).agent;
      ready = (OnFalse_at c.if-pick_up.false c.pick_up.ensures.again).ready;
      so = rounds_on g.G.Gate.takes g.G.Gate.gives g.G.Gate.finds c.args.self.now.agent.now.caller c.args.key.now c.args.op.now
          c.args.self.now.gate.now c.args.self.now.token.now c.loop.self.gate.now c.loop.self.token.now c.in-Joined.join c.lend.new.self.gate.now c.lend.new.self.token.now c.pick_up.new.self.gate.now c.pick_up.new.self.token.now c.loop.invariant.so x c.lend.new.self.agent.now.caller.session
          (session_joined c.args.self.now.agent.now c.loop.self.agent.now c.lend.new.self.agent.now c.loop.invariant.agent c.in-Joined.ensures.agent) (OnFalse_at c.if-pick_up.false c.pick_up.ensures.again).phase;
    }
