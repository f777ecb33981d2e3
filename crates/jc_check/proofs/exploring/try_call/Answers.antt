use Rattle.std.proofs.Common.{subst}
use Rattle.jc_check.specs.Exploring.{Covers}
use Rattle.jc_check.proofs.Covering.{seven-acts}
use Rattle.jc_check.proofs.exploring.try_call.Goals as goal

pub returns-clause-grows : goal.returns-clause-grows
returns-clause-grows c =
    (seven-acts c.args.rules.now c.args.calls.now c.args.place c.args.call c.args.states.now c.try_turn.new.states c.try_turn-2.new.states c.try_turn-3.new.states c.try_turn-4.new.states c.try_turn-5.new.states c.try_turn-6.new.states c.try_turn-7.new.states
    c.in_ok-try_turn.ensures.grows c.in_ok-try_turn-2.ensures.grows c.in_ok-try_turn-3.ensures.grows c.in_ok-try_turn-4.ensures.grows c.in_ok-try_turn-5.ensures.grows c.in_ok-try_turn-6.ensures.grows c.in_ok-try_turn-7.ensures.grows
    (λ n at. subst (Covers c.args.rules.now c.args.calls.now c.try_turn.new.states n) c.turn_of-step.ensures (c.in_ok-try_turn.ensures.covers n at))
    (λ n at. subst (Covers c.args.rules.now c.args.calls.now c.try_turn-2.new.states n) c.turn_of-share.ensures (c.in_ok-try_turn-2.ensures.covers n at))
    (λ n at. subst (Covers c.args.rules.now c.args.calls.now c.try_turn-3.new.states n) c.turn_of-foreign.ensures (c.in_ok-try_turn-3.ensures.covers n at))
    (λ n at. subst (Covers c.args.rules.now c.args.calls.now c.try_turn-4.new.states n) c.turn_of-entry.ensures (c.in_ok-try_turn-4.ensures.covers n at))
    (λ n at. subst (Covers c.args.rules.now c.args.calls.now c.try_turn-5.new.states n) c.turn_of-store.ensures (c.in_ok-try_turn-5.ensures.covers n at))
    (λ n at. subst (Covers c.args.rules.now c.args.calls.now c.try_turn-6.new.states n) c.turn_of-both.ensures (c.in_ok-try_turn-6.ensures.covers n at))
    (λ n at. subst (Covers c.args.rules.now c.args.calls.now c.try_turn-7.new.states n) c.turn_of-load.ensures (c.in_ok-try_turn-7.ensures.covers n at))).0

pub returns-clause-covers : goal.returns-clause-covers
returns-clause-covers c =
    (seven-acts c.args.rules.now c.args.calls.now c.args.place c.args.call c.args.states.now c.try_turn.new.states c.try_turn-2.new.states c.try_turn-3.new.states c.try_turn-4.new.states c.try_turn-5.new.states c.try_turn-6.new.states c.try_turn-7.new.states
    c.in_ok-try_turn.ensures.grows c.in_ok-try_turn-2.ensures.grows c.in_ok-try_turn-3.ensures.grows c.in_ok-try_turn-4.ensures.grows c.in_ok-try_turn-5.ensures.grows c.in_ok-try_turn-6.ensures.grows c.in_ok-try_turn-7.ensures.grows
    (λ n at. subst (Covers c.args.rules.now c.args.calls.now c.try_turn.new.states n) c.turn_of-step.ensures (c.in_ok-try_turn.ensures.covers n at))
    (λ n at. subst (Covers c.args.rules.now c.args.calls.now c.try_turn-2.new.states n) c.turn_of-share.ensures (c.in_ok-try_turn-2.ensures.covers n at))
    (λ n at. subst (Covers c.args.rules.now c.args.calls.now c.try_turn-3.new.states n) c.turn_of-foreign.ensures (c.in_ok-try_turn-3.ensures.covers n at))
    (λ n at. subst (Covers c.args.rules.now c.args.calls.now c.try_turn-4.new.states n) c.turn_of-entry.ensures (c.in_ok-try_turn-4.ensures.covers n at))
    (λ n at. subst (Covers c.args.rules.now c.args.calls.now c.try_turn-5.new.states n) c.turn_of-store.ensures (c.in_ok-try_turn-5.ensures.covers n at))
    (λ n at. subst (Covers c.args.rules.now c.args.calls.now c.try_turn-6.new.states n) c.turn_of-both.ensures (c.in_ok-try_turn-6.ensures.covers n at))
    (λ n at. subst (Covers c.args.rules.now c.args.calls.now c.try_turn-7.new.states n) c.turn_of-load.ensures (c.in_ok-try_turn-7.ensures.covers n at))).1
