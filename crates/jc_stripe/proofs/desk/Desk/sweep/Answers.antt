use Rattle.std.proofs.Common.{inr}
use Rattle.jc_stripe.proofs.Settling.{quiet_forgetting}
use Rattle.jc_stripe.proofs.DeskForgetting.{quiet_desk}
use Rattle.jc_stripe.proofs.desk.Desk.sweep.Goals as goal

pub invariant_of-self : goal.invariant_of-self
invariant_of-self c =
    let old = c.self.inside.stripe in
    let new = c.note_sweep.new.stripe in
    (c.self.invariant.0, quiet_desk old new _ _ c.self.invariant.1 (quiet_forgetting old new c.events_len.ensures.reached (inr (inr c.note_sweep.ensures.sweeps))))

pub invariant_of-self-then-not-is_shut : goal.invariant_of-self-then-not-is_shut
invariant_of-self-then-not-is_shut c =
    let old = c.self.inside.stripe in
    let new = c.note_sweep.new.stripe in
    (c.self.invariant.0, quiet_desk old new _ _ c.self.invariant.1 (quiet_forgetting old new c.events_len.ensures.reached (inr (inr c.note_sweep.ensures.sweeps))))

pub invariant_of-self-2 : goal.invariant_of-self-2
invariant_of-self-2 c =
    let old = c.self.inside.stripe in
    let new = c.note_sweep.new.stripe in
    (c.self.invariant.0, quiet_desk old new _ _ c.self.invariant.1 (quiet_forgetting old new c.events_len.ensures.reached (inr (inr c.note_sweep.ensures.sweeps))))
