use Rattle.std.proofs.Common.{inl}
use Rattle.jc_stripe.proofs.Settling.{quiet_forgetting}
use Rattle.jc_stripe.proofs.DeskForgetting.{quiet_desk}
use Rattle.jc_stripe.proofs.desk.Desk.invalidate.Goals as goal

pub invariant_of-self : goal.invariant_of-self
invariant_of-self c =
    let old = c.self-2.inside.stripe in
    let new = c.note_invalidation.new.stripe in (
      c.self-2.invariant.0,
      quiet_desk old new _ _ c.self-2.invariant.1 (quiet_forgetting old new c.events_len.ensures.reached (inl (c.args.key.now, c.note_invalidation.ensures.invalidates))),
    )
