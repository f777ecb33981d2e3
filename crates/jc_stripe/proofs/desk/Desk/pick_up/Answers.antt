use Rattle.std.proofs.Common.{ap, arith}
use Rattle.jc_stripe.specs.State.{State}
use Rattle.jc_stripe.proofs.Uniform.{one_uniform}
use Rattle.jc_stripe.proofs.Own.{own_left}
use Rattle.jc_stripe.proofs.DeskNumbers.{picked, left_same}
use Rattle.jc_stripe.proofs.DeskStates.{desk_same, same_joined, left_joined, join_below}
use Rattle.jc_stripe.proofs.desk.Desk.pick_up.Goals as goal
use Rattle.jc_stripe.proofs.desk.Desk.pick_up.Goals.{in-Answer, in-Again, in-NotYet}

pub invariant_of-self : goal.invariant_of-self
invariant_of-self c =
    let old = c.self.inside.stripe in
    let new = c.pick_up.new.self in
    let join = c.new-join.result in
    let next = c.self.inside.next_call in
    let is = c.self.invariant.1 in (
      c.self.invariant.0,
      elim c.match-pick_up.branch [
        | in-Answer w ↦ desk_same old new _ next next (omega arith) is (ap (λ (s : State). s.reservations) w.in-Answer.ensures.picks_up.3) (ap (λ (s : State). s.origin) w.in-Answer.ensures.picks_up.3)
            (ap (λ (s : State). s.lives) w.in-Answer.ensures.picks_up.3)
            (left_joined old new join next w.in-Answer.ensures.picks_up.3 is.joined_below)
            (picked own_left one_uniform old new join _ _ _ next (join_below old join next w.in-Answer.ensures.picks_up.0 is.joined_below) c.events_len.ensures.reached is.before w.in-Answer.ensures.picks_up c.pick_up.ensures.phase)
        | in-Again w ↦ desk_same old new _ next next (omega arith) is (ap (λ (s : State). s.reservations) w.in-Again.ensures.picks_up.2) (ap (λ (s : State). s.origin) w.in-Again.ensures.picks_up.2)
            (ap (λ (s : State). s.lives) w.in-Again.ensures.picks_up.2)
            (left_joined old new join next w.in-Again.ensures.picks_up.2 is.joined_below)
            (left_same one_uniform old new join.caller.session next c.events_len.ensures.reached is.before c.pick_up.ensures.phase
            (own_left.again old new join c.events_len.ensures.reached w.in-Again.ensures.picks_up))
        | in-NotYet w ↦ desk_same old new _ next next (omega arith) is (ap (λ (s : State). s.reservations) w.in-NotYet.ensures.picks_up.3) (ap (λ (s : State). s.origin) w.in-NotYet.ensures.picks_up.3)
            (ap (λ (s : State). s.lives) w.in-NotYet.ensures.picks_up.3)
            (same_joined old new next next (omega arith) (ap (λ (s : State). s.joiners) w.in-NotYet.ensures.picks_up.3) is.joined_below)
            (left_same one_uniform old new join.caller.session next c.events_len.ensures.reached is.before c.pick_up.ensures.phase (own_left.not_yet old new join _ w.in-NotYet.ensures.picks_up))
      ],
    )
