use Rattle.jc_bulk.proofs.Common.{IsSpent, no_asks, KeysAskAs, ran_more, ran_none, ran_quiet, ran_refused, refused_over, IsRoundTold, HasRun, with_rounds, ops_of, CallPast, reserved_by, with_round, ◌≡◌, ◌≤◌, ◌∙◌, ap, map, refl, subst, sym}
use Rattle.jc_bulk.proofs.Filling.{may_fill, may_write}
use Rattle.jc_bulk.proofs.RoundsOn.{each_takes, have_more, have_none, have_same, left_as, left_empty, left_ready, none_said, ready_later, spent_of, takes_new, told_of}
use Rattle.jc_bulk.proofs.rounds.run_rounds.Goals.{After-end_round-spent}
use Rattle.jc_bulk.proofs.rounds.run_rounds.Goals as goal

-- 1. A round that was answered, after those before it.

told : (g : _) (c : After-end_round-spent g) (past : CallPast) (run : HasRun c.args.cache.now past c.args.session.now c.args.call.now)
    → IsRoundTold c.args.cache.now (with_rounds past (c.loop.invariant.runs past run).rounds) c.ask_for-answers.ensures.asked.asked.round c.ask_for-answers.new.session (record c.reserve.new.self { tickets = c.ask_for-answers.new.tickets })
    c.ask_for-answers.result.0 c.ask_for-answers.result.1
told g c past run =
    let so_far = c.loop.invariant.runs past run in
    let then = with_rounds past so_far.rounds in
    told_of _ c.args.cache.now then c.reserve.new.session c.ask_for-answers.new.session c.reserve.new.self _ c.loop.next c.ask_for-answers.new.tickets c.ask_for-answers.result.0 c.ask_for-answers.result.1 c.ask_for-answers.result.2
    (c.if-not-reserve.ensures.reserved refl then so_far.run) (ready_later c.loop.call c.reserve.new.self c.loop.next c.reserve.ensures.advances.targets c.reserve.ensures.advances.most c.loop.invariant.ready)
    c.ask_for-answers.ensures.tickets refl c.ask_for-answers.ensures.asked

ended : (g : _) (c : After-end_round-spent g) (past : CallPast) (run : HasRun c.args.cache.now past c.args.session.now c.args.call.now)
    → HasRun c.args.cache.now (with_round (with_rounds past (c.loop.invariant.runs past run).rounds) c.ask_for-answers.ensures.asked.asked.round) c.end_round-spent.new.session c.end_round-spent.new.self
ended g c past run = c.end_round-spent.ensures.run (with_rounds past (c.loop.invariant.runs past run).rounds) c.ask_for-answers.ensures.asked.asked.round (told g c past run)

spent : (g : _) (c : After-end_round-spent g) → IsSpent c.loop.next.kind c.loop.next.room c.end_round-spent.result c.ask_for-answers.result.2
spent g c =
    let r = c.requires.run in
    let asked = c.ask_for-answers.ensures.asked.asked in
    spent_of c.loop.next.kind c.loop.next.room c.args.cache.now.config (map reserved_by c.reserve.new.self.tickets.items) asked.round c.ask_for-answers.result.0 c.end_round-spent.result c.ask_for-answers.result.2
    asked.asked (c.end_round-spent.ensures.spent (with_rounds r.0 (c.loop.invariant.runs r.0 r.1).rounds) asked.round (told g c r.0 r.1)) c.end_round-spent.ensures.room asked.rest_is

-- 2. What the calls require.

pub loop-init : goal.loop-init
loop-init g c = record {
  kind = sym c.kind-kind.ensures;
  ready = c.requires.ready;
  runs = λ past run. ran_none _ c.args.cache.now past c.args.session.now c.args.call.now (have_none _ c.args.session.now) run;
}

pub reserve-requires : goal.reserve-requires
reserve-requires g c =
    let r = c.requires.run in
    let so_far = c.loop.invariant.runs r.0 r.1 in
    record { run = (with_rounds r.0 so_far.rounds, so_far.run) }

pub end-requires : goal.end-requires
end-requires g c = c.loop.invariant.ready.none

pub ask_for-answers-requires : goal.ask_for-answers-requires
ask_for-answers-requires g c =
    let r = c.requires.run in
    let so_far = c.loop.invariant.runs r.0 r.1 in
    let then = with_rounds r.0 so_far.rounds in
    let reserved = c.if-not-reserve.ensures.reserved refl then so_far.run in
    let ready = ready_later c.loop.call c.reserve.new.self c.loop.next c.reserve.ensures.advances.targets c.reserve.ensures.advances.most c.loop.invariant.ready in
    record { may = may_fill c.args.cache.now then reserved.old c.reserve.new.session c.reserve.new.self c.loop.next reserved.started ready reserved.some }

pub end_round-spent-requires : goal.end_round-spent-requires
end_round-spent-requires g c =
    let r = c.requires.run in
    let so_far = c.loop.invariant.runs r.0 r.1 in
    let then = with_rounds r.0 so_far.rounds in
    let ready = ready_later c.loop.call c.reserve.new.self c.loop.next c.reserve.ensures.advances.targets c.reserve.ensures.advances.most c.loop.invariant.ready in
    let asked = c.ask_for-answers.ensures.asked in
    record {
      told = (
        then,
        asked.asked.round,
        told_of _ c.args.cache.now then c.reserve.new.session c.ask_for-answers.new.session c.reserve.new.self _ c.loop.next c.ask_for-answers.new.tickets c.ask_for-answers.result.0 c.ask_for-answers.result.1 c.ask_for-answers.result.2
            (c.if-not-reserve.ensures.reserved refl then so_far.run) ready c.ask_for-answers.ensures.tickets refl asked,
      );
    }

pub again-left-requires : goal.again-left-requires
again-left-requires g c = (c.loop.next.kind, c.loop.next.room, spent g (goal.at.again-left-requires g c).After-end_round-spent)

pub wait-requires : goal.wait-requires
wait-requires g c =
    let r = c.requires.run in
    let on = ended g (goal.at.wait-requires g c).After-end_round-spent r.0 r.1 in
    (with_round (with_rounds r.0 (c.loop.invariant.runs r.0 r.1).rounds) c.ask_for-answers.ensures.asked.asked.round, on.between)

pub end_left-requires : goal.end_left-requires
end_left-requires g c =
    let spent = spent g (goal.at.end_left-requires g c).After-end_round-spent in
    left_empty c.loop.next.kind c.loop.call.most c.again-left.result
    (left_ready c.loop.next.kind c.loop.call.most (no_asks c.loop.next.kind c.loop.next.room) c.again-left.result (c.again-left.ensures.left c.loop.next.kind c.loop.next.room spent) (refl, refl, c.loop.invariant.ready.room))

pub ready-requires : goal.ready-requires
ready-requires g c =
    let spent = spent g (goal.at.ready-requires g c).After-end_round-spent in
    left_as c.loop.next.kind c.kind-kind.result c.loop.call.most c.most.result c.again-left.result c.loop.invariant.kind (c.most.ensures ∙ c.end_round-spent.ensures.advances.most ∙ c.reserve.ensures.advances.most)
    (left_ready c.loop.next.kind c.loop.call.most (no_asks c.loop.next.kind c.loop.next.room) c.again-left.result (c.again-left.ensures.left c.loop.next.kind c.loop.next.room spent) (refl, refl, c.loop.invariant.ready.room))

-- 3. The rounds.

pub returns-then-not-reserve-clause-runs : goal.returns-then-not-reserve-clause-runs
returns-then-not-reserve-clause-runs g c past run =
    let so_far = c.loop.invariant.runs past run in
    ran_quiet _ c.args.cache.now past c.args.session.now c.args.call.now _ c.loop.session c.reserve.new.session c.loop.call c.reserve.new.self so_far
    (have_same _ c.args.session.now c.loop.session c.reserve.new.session so_far.rounds (ap (λ a. a.hands) c.reserve.ensures.advances.agent) so_far.asked)
    (c.if-not-reserve.ensures.run refl (with_rounds past so_far.rounds) so_far.run) c.reserve.ensures.advances

pub returns-then-not-wait-clause-runs : goal.returns-then-not-wait-clause-runs
returns-then-not-wait-clause-runs g c past run =
    let so_far = c.loop.invariant.runs past run in
    let asked = c.ask_for-answers.ensures.asked in
    let end = c.end_round-spent in
    (ran_more _ c.args.cache.now past c.args.session.now c.args.call.now _ c.loop.session c.reserve.new.session c.ask_for-answers.new.session end.new.session c.loop.call c.reserve.new.self _ end.new.self so_far asked.asked.round
    (have_more _ c.args.session.now c.loop.session c.reserve.new.session c.ask_for-answers.new.session end.new.session so_far.rounds c.loop.next c.reserve.new.self.tickets.items c.ask_for-answers.result.0 c.ask_for-answers.result.1 c.ask_for-answers.result.2
    (ap (λ a. a.hands) c.reserve.ensures.advances.agent) so_far.asked asked (ap (λ a. a.hands) end.ensures.advances.agent))
    (ended g (goal.at.returns-then-not-wait-clause-runs g c).After-end_round-spent past run) c.reserve.ensures.advances asked.rest refl end.ensures.advances).0

pub loop-preserved : goal.loop-preserved
loop-preserved g c = record {
  kind = c.in-Ok.ensures.ok.0;
  ready = record {
    none = c.in-Ok.ensures.ok.1;
    kind = subst (λ k. KeysAskAs k (ops_of c.end_round-spent.new.self.targets.now)) (c.loop.invariant.kind ∙ sym c.in-Ok.ensures.ok.0)
        (subst (λ t. KeysAskAs c.loop.next.kind (ops_of t.now)) (sym (c.end_round-spent.ensures.advances.targets ∙ c.reserve.ensures.advances.targets)) c.loop.invariant.ready.kind);
    room = subst (λ n. n ≤ c.in-Ok.outside.room) c.most.ensures c.in-Ok.ensures.ok.2;
  };
  runs = λ past run.
      let so_far = c.loop.invariant.runs past run in
      let asked = c.ask_for-answers.ensures.asked in
      let end = c.end_round-spent in
      (ran_more _ c.args.cache.now past c.args.session.now c.args.call.now _ c.loop.session c.reserve.new.session c.ask_for-answers.new.session end.new.session c.loop.call c.reserve.new.self _ end.new.self so_far asked.asked.round
      (have_more _ c.args.session.now c.loop.session c.reserve.new.session c.ask_for-answers.new.session end.new.session so_far.rounds c.loop.next c.reserve.new.self.tickets.items c.ask_for-answers.result.0 c.ask_for-answers.result.1 c.ask_for-answers.result.2
      (ap (λ a. a.hands) c.reserve.ensures.advances.agent) so_far.asked asked (ap (λ a. a.hands) end.ensures.advances.agent))
      (ended g (goal.at.loop-preserved g c).After-end_round-spent past run) c.reserve.ensures.advances asked.rest refl end.ensures.advances).0;
}

pub returns-in-Err-clause-over : goal.returns-in-Err-clause-over
returns-in-Err-clause-over g c = refused_over c.end_round-spent.new.self c.refuse_rest.new.self c.refuse_rest.ensures.progress

pub returns-in-Err-clause-runs : goal.returns-in-Err-clause-runs
returns-in-Err-clause-runs g c past run =
    let at = (goal.at.returns-in-Err-clause-runs g c).After-end_round-spent in
    let so_far = c.loop.invariant.runs past run in
    let then = with_rounds past so_far.rounds in
    let reserved = c.if-not-reserve.ensures.reserved refl then so_far.run in
    let ready = ready_later c.loop.call c.reserve.new.self c.loop.next c.reserve.ensures.advances.targets c.reserve.ensures.advances.most c.loop.invariant.ready in
    let asked = c.ask_for-answers.ensures.asked in
    let end = c.end_round-spent in
    let may = may_write c.args.cache.now then reserved.old c.reserve.new.session c.reserve.new.self c.loop.next reserved.started ready reserved.some in
    let new = takes_new c.loop.next.kind c.args.cache.now.config may (none_said _ c.again-left.result c.in-Err.ensures.err (c.again-left.ensures.none c.loop.next.kind c.loop.next.room (spent g at))) in
    let keys = subst (λ t. KeysAskAs c.loop.next.kind (ops_of t.now)) (sym end.ensures.advances.targets) ready.kind in
    let all = ran_more _ c.args.cache.now past c.args.session.now c.args.call.now _ c.loop.session c.reserve.new.session c.ask_for-answers.new.session end.new.session c.loop.call c.reserve.new.self _ end.new.self so_far asked.asked.round
    (have_more _ c.args.session.now c.loop.session c.reserve.new.session c.ask_for-answers.new.session end.new.session so_far.rounds c.loop.next c.reserve.new.self.tickets.items c.ask_for-answers.result.0 c.ask_for-answers.result.1 c.ask_for-answers.result.2
    (ap (λ a. a.hands) c.reserve.ensures.advances.agent) so_far.asked asked (ap (λ a. a.hands) end.ensures.advances.agent))
    (ended g at past run) c.reserve.ensures.advances asked.rest refl end.ensures.advances in
    ran_refused _ c.args.cache.now past c.args.session.now c.args.call.now end.new.session end.new.self c.refuse_rest.new.self
    all.0
    c.refuse_rest.ensures.rest c.refuse_rest.ensures.progress c.refuse_rest.ensures.cause all.1 (each_takes c.loop.next.kind c.args.cache.now.config (ops_of end.new.self.targets.now) keys new)
