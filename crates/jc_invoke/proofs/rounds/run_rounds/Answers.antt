use Rattle.jc_invoke.proofs.Common.{IsInvoked, IsRoundRoomFor, ran_more, ran_none, ran_quiet, ran_refused, refused_over, IsRoundTold, ProcessAll, HasRun, with_rounds, ops_of, CallPast, with_round, ◌≡◌, ◌≤◌, ◌∙◌, IfSome, None, ap, refl, subst, sym}
use Rattle.jc_invoke.proofs.InvokeRound.{each_invoked, have_more, have_none, have_same, left_none, left_room, left_there, may_run, ready_later, told_of}
use Rattle.jc_invoke.proofs.rounds.run_rounds.Goals.{After-end_round-spent, After-again-left}
use Rattle.jc_invoke.proofs.rounds.run_rounds.Goals as goal

-- 1. A round that was answered, after those before it.

told : (g : _) (c : After-end_round-spent g) (past : CallPast) (run : HasRun c.args.cache.now past c.args.session.now c.args.call.now)
    → IsRoundTold c.args.cache.now (with_rounds past (c.loop.invariant.runs past run).rounds) (ProcessAll c.ask-answers.ensures.asked.asked.round) c.ask-answers.new.session (record c.reserve.new.self { tickets = c.ask-answers.new.tickets }) c.ask-answers.result.0 None
told g c past run =
    let so_far = c.loop.invariant.runs past run in
    told_of _ c.args.processing.now.args.now c.args.cache.now c.loop.processing.args.now (with_rounds past so_far.rounds) c.reserve.new.session c.ask-answers.new.session c.reserve.new.self _ c.ask-answers.new.tickets c.loop.processing.processor.now c.ask-answers.new.processing.processor.now c.loop.next.through c.ask-answers.result.0
    (c.if-not-reserve.ensures.reserved refl (with_rounds past so_far.rounds) so_far.run) (ready_later c.args.cache.now.config c.loop.call c.reserve.new.self c.loop.next c.reserve.ensures.advances.targets c.reserve.ensures.advances.most c.loop.invariant.ready).invoked
    c.loop.invariant.ready.room_is.through_is c.ask-answers.ensures.same.0 refl c.ask-answers.ensures.asked

ended : (g : _) (c : After-end_round-spent g) (past : CallPast) (run : HasRun c.args.cache.now past c.args.session.now c.args.call.now)
    → HasRun c.args.cache.now (with_round (with_rounds past (c.loop.invariant.runs past run).rounds) (ProcessAll c.ask-answers.ensures.asked.asked.round)) c.end_round-spent.new.session c.end_round-spent.new.self
ended g c past run = c.end_round-spent.ensures.run (with_rounds past (c.loop.invariant.runs past run).rounds) (ProcessAll c.ask-answers.ensures.asked.asked.round) (told g c past run)

left : (g : _) (c : After-again-left g) → IfSome c.again-left.result (λ room. IsRoundRoomFor c.loop.call.most c.args.cache.now.config.write_through room)
left g c =
    left_room c.loop.call.most c.args.cache.now.config.write_through c.loop.next c.end_round-spent.result c.ask-answers.result.1 c.again-left.result c.loop.invariant.ready.room_is c.ask-answers.ensures.left.0 c.again-left.ensures
    (subst (λ n. c.loop.call.most ≤ n) (sym (c.end_round-spent.ensures.room ∙ c.ask-answers.ensures.left.1)) c.loop.invariant.ready.room_is.runs_room)

-- 2. What the calls require.

pub loop-init : goal.loop-init
loop-init g c = record {
  ready = c.requires.ready;
  runs = λ past run. ran_none _ c.args.cache.now past c.args.session.now c.args.call.now (have_none _ c.args.processing.now.args.now c.args.cache.now c.args.session.now c.args.processing.now.processor.now) run;
  same = (refl, refl);
}

pub reserve-requires : goal.reserve-requires
reserve-requires g c =
    let r = c.requires.run in
    let so_far = c.loop.invariant.runs r.0 r.1 in
    record { run = (with_rounds r.0 so_far.rounds, so_far.run) }

pub end-requires : goal.end-requires
end-requires g c = (c.loop.call.most, c.args.cache.now.config.write_through, c.loop.invariant.ready.room_is)

pub ask-answers-requires : goal.ask-answers-requires
ask-answers-requires g c =
    let r = c.requires.run in
    let so_far = c.loop.invariant.runs r.0 r.1 in
    let then = with_rounds r.0 so_far.rounds in
    let ready = ready_later c.args.cache.now.config c.loop.call c.reserve.new.self c.loop.next c.reserve.ensures.advances.targets c.reserve.ensures.advances.most c.loop.invariant.ready in
    record { may = may_run c.args.cache.now then c.reserve.new.session c.reserve.new.self c.loop.next ready (c.if-not-reserve.ensures.reserved refl then so_far.run) }

pub end_round-spent-requires : goal.end_round-spent-requires
end_round-spent-requires g c =
    let r = c.requires.run in
    let so_far = c.loop.invariant.runs r.0 r.1 in
    let then = with_rounds r.0 so_far.rounds in
    let ready = ready_later c.args.cache.now.config c.loop.call c.reserve.new.self c.loop.next c.reserve.ensures.advances.targets c.reserve.ensures.advances.most c.loop.invariant.ready in
    record {
      told = (
        then,
        ProcessAll c.ask-answers.ensures.asked.asked.round,
        told_of _ c.args.processing.now.args.now c.args.cache.now c.loop.processing.args.now then c.reserve.new.session c.ask-answers.new.session c.reserve.new.self _ c.ask-answers.new.tickets c.loop.processing.processor.now c.ask-answers.new.processing.processor.now c.loop.next.through c.ask-answers.result.0
            (c.if-not-reserve.ensures.reserved refl then so_far.run) ready.invoked c.loop.invariant.ready.room_is.through_is c.ask-answers.ensures.same.0 refl c.ask-answers.ensures.asked,
      );
    }

pub again-left-requires : goal.again-left-requires
again-left-requires g c =
    let r = c.requires.run in
    let round = c.ask-answers.ensures.asked.asked.round in
    (c.args.cache.now.config, round, c.end_round-spent.ensures.spent (with_rounds r.0 (c.loop.invariant.runs r.0 r.1).rounds) (ProcessAll round) (told g (goal.at.again-left-requires g c).After-end_round-spent r.0 r.1))

pub wait-requires : goal.wait-requires
wait-requires g c =
    let r = c.requires.run in
    let on = ended g (goal.at.wait-requires g c).After-end_round-spent r.0 r.1 in
    (with_round (with_rounds r.0 (c.loop.invariant.runs r.0 r.1).rounds) (ProcessAll c.ask-answers.ensures.asked.asked.round), on.between)

pub end_room-requires : goal.end_room-requires
end_room-requires g c = (c.loop.call.most, c.args.cache.now.config.write_through, left g (goal.at.end_room-requires g c).After-again-left)

pub next_room-requires : goal.next_room-requires
next_room-requires g c =
    subst (λ n. IfSome c.again-left.result (λ room. IsRoundRoomFor n c.args.cache.now.config.write_through room)) (sym (c.most.ensures ∙ c.end_round-spent.ensures.advances.most ∙ c.reserve.ensures.advances.most))
    (left g (goal.at.next_room-requires g c).After-again-left)

-- 3. The rounds.

pub returns-then-not-reserve-clause-runs : goal.returns-then-not-reserve-clause-runs
returns-then-not-reserve-clause-runs g c past run =
    let so_far = c.loop.invariant.runs past run in
    ran_quiet _ c.args.cache.now past c.args.session.now c.args.call.now _ c.loop.session c.reserve.new.session c.loop.call c.reserve.new.self so_far
    (have_same _ c.args.processing.now.args.now c.args.cache.now c.args.session.now c.loop.session c.reserve.new.session c.args.processing.now.processor.now c.loop.processing.processor.now so_far.rounds (ap (λ a. a.hands) c.reserve.ensures.advances.agent) so_far.asked)
    (c.if-not-reserve.ensures.run refl (with_rounds past so_far.rounds) so_far.run) c.reserve.ensures.advances

pub returns-then-not-wait-clause-over : goal.returns-then-not-wait-clause-over
returns-then-not-wait-clause-over g c = (c.if-not-wait.ensures.over refl, (c.ask-answers.ensures.same.1.0 ∙ c.loop.invariant.same.0, c.ask-answers.ensures.same.1.1 ∙ c.loop.invariant.same.1))

pub returns-then-not-wait-clause-runs : goal.returns-then-not-wait-clause-runs
returns-then-not-wait-clause-runs g c past run =
    let so_far = c.loop.invariant.runs past run in
    let has = c.ask-answers.ensures.asked in
    let end = c.end_round-spent in
    (ran_more _ c.args.cache.now past c.args.session.now c.args.call.now _ c.loop.session c.reserve.new.session c.ask-answers.new.session end.new.session c.loop.call c.reserve.new.self _ end.new.self so_far (ProcessAll has.asked.round)
    (have_more _ c.args.processing.now.args.now c.args.cache.now c.args.session.now c.loop.session c.reserve.new.session c.ask-answers.new.session end.new.session c.args.processing.now.processor.now c.loop.processing.processor.now c.ask-answers.new.processing.processor.now so_far.rounds
    c.reserve.new.self.tickets.items c.loop.next.through c.ask-answers.result.0 c.loop.processing.args.now (ap (λ a. a.hands) c.reserve.ensures.advances.agent) so_far.asked (ap (λ a. a.now) c.loop.invariant.same.1) c.loop.invariant.ready.room_is.through_is has (ap (λ a. a.hands) end.ensures.advances.agent))
    (ended g (goal.at.returns-then-not-wait-clause-runs g c).After-end_round-spent past run) c.reserve.ensures.advances has.rest refl end.ensures.advances).0

pub loop-preserved : goal.loop-preserved
loop-preserved g c = record {
  ready = record {
    invoked = (c.loop.invariant.ready.invoked.0, ap (λ t. ops_of t.now) (c.end_round-spent.ensures.advances.targets ∙ c.reserve.ensures.advances.targets) ∙ c.loop.invariant.ready.invoked.1);
    room_is = subst (λ n. IsRoundRoomFor n c.args.cache.now.config.write_through c.in-Ok.room) c.most.ensures c.in-Ok.ensures.0;
  };
  runs = λ past run.
      let so_far = c.loop.invariant.runs past run in
      let has = c.ask-answers.ensures.asked in
      let end = c.end_round-spent in
      (ran_more _ c.args.cache.now past c.args.session.now c.args.call.now _ c.loop.session c.reserve.new.session c.ask-answers.new.session end.new.session c.loop.call c.reserve.new.self _ end.new.self so_far (ProcessAll has.asked.round)
      (have_more _ c.args.processing.now.args.now c.args.cache.now c.args.session.now c.loop.session c.reserve.new.session c.ask-answers.new.session end.new.session c.args.processing.now.processor.now c.loop.processing.processor.now c.ask-answers.new.processing.processor.now so_far.rounds
      c.reserve.new.self.tickets.items c.loop.next.through c.ask-answers.result.0 c.loop.processing.args.now (ap (λ a. a.hands) c.reserve.ensures.advances.agent) so_far.asked (ap (λ a. a.now) c.loop.invariant.same.1) c.loop.invariant.ready.room_is.through_is has (ap (λ a. a.hands) end.ensures.advances.agent))
      (ended g (goal.at.loop-preserved g c).After-end_round-spent past run) c.reserve.ensures.advances has.rest refl end.ensures.advances).0;
  same = (c.ask-answers.ensures.same.1.0 ∙ c.loop.invariant.same.0, c.ask-answers.ensures.same.1.1 ∙ c.loop.invariant.same.1);
}

pub returns-in-Err-clause-over : goal.returns-in-Err-clause-over
returns-in-Err-clause-over g c = (
  refused_over c.end_round-spent.new.self c.refuse_rest.new.self c.refuse_rest.ensures.progress,
  (c.ask-answers.ensures.same.1.0 ∙ c.loop.invariant.same.0, c.ask-answers.ensures.same.1.1 ∙ c.loop.invariant.same.1),
)

pub returns-in-Err-clause-runs : goal.returns-in-Err-clause-runs
returns-in-Err-clause-runs g c past run =
    let so_far = c.loop.invariant.runs past run in
    let has = c.ask-answers.ensures.asked in
    let end = c.end_round-spent in
    let through = left_there _ c.again-left.result c.in-Err.ensures.1
    (left_none c.loop.call.most c.args.cache.now.config.write_through c.loop.next end.result c.ask-answers.result.1 c.again-left.result c.loop.invariant.ready.room_is c.ask-answers.ensures.left.0 c.again-left.ensures) in
    let invoked : IsInvoked end.new.self = (c.loop.invariant.ready.invoked.0, ap (λ t. ops_of t.now) (end.ensures.advances.targets ∙ c.reserve.ensures.advances.targets) ∙ c.loop.invariant.ready.invoked.1) in
    let all = ran_more _ c.args.cache.now past c.args.session.now c.args.call.now _ c.loop.session c.reserve.new.session c.ask-answers.new.session end.new.session c.loop.call c.reserve.new.self _ end.new.self so_far (ProcessAll has.asked.round)
    (have_more _ c.args.processing.now.args.now c.args.cache.now c.args.session.now c.loop.session c.reserve.new.session c.ask-answers.new.session end.new.session c.args.processing.now.processor.now c.loop.processing.processor.now c.ask-answers.new.processing.processor.now so_far.rounds
    c.reserve.new.self.tickets.items c.loop.next.through c.ask-answers.result.0 c.loop.processing.args.now (ap (λ a. a.hands) c.reserve.ensures.advances.agent) so_far.asked (ap (λ a. a.now) c.loop.invariant.same.1) c.loop.invariant.ready.room_is.through_is has (ap (λ a. a.hands) end.ensures.advances.agent))
    (ended g (goal.at.returns-in-Err-clause-runs g c).After-end_round-spent past run) c.reserve.ensures.advances has.rest refl end.ensures.advances in
    ran_refused _ c.args.cache.now past c.args.session.now c.args.call.now end.new.session end.new.self c.refuse_rest.new.self
    all.0
    c.refuse_rest.ensures.rest c.refuse_rest.ensures.progress c.refuse_rest.ensures.cause all.1 (each_invoked c.args.cache.now.config end.new.self invoked through)
