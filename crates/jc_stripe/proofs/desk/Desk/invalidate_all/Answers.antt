use Rattle.std.proofs.Common.{inl, inr}
use Rattle.jc_stripe.proofs.Settling.{quiet_forgetting}
use Rattle.jc_stripe.proofs.DeskForgetting.{quiet_desk}
use Rattle.jc_stripe.proofs.desk.Desk.invalidate_all.Goals as goal

pub invariant_of-self : goal.invariant_of-self
invariant_of-self c =
    let old = c.self.inside.stripe in
    let new = c.invalidate_all.new.self in
    (c.self.invariant.0, quiet_desk old new _ _ c.self.invariant.1 (quiet_forgetting old new c.events_len.ensures.reached (inr (inl c.invalidate_all.ensures))))
