use Rattle.std.proofs.Common.{◌∙◌, sym, subst, refl}
use Rattle.jc_stripe.specs.declared.ticket.Reservation.{Reservation}
use Rattle.jc_stripe.specs.State.{State, IsOut}
use Rattle.jc_stripe.specs.Phases.{after_withdrawal}
use Rattle.jc_stripe.specs.Inside.{state_of}
use Rattle.jc_stripe.proofs.Tables.{reached_withdrawn}
use Rattle.jc_stripe.proofs.Making.{enough_promised, sound-withdrawn, state-withdrawn}
use Rattle.jc_stripe.proofs.stripe.Stripe.give_back.Goals as goal

pub unpromise-requires : goal.unpromise-requires
unpromise-requires c =
    let r = c.deref-ended.result.now in
    let Out : State × Reservation → Type 0 = λ x. IsOut x.0 x.1 in
    enough_promised c.self.inside r c.dissolve-waiting.result c.self.invariant (subst Out (λ i. (sym c.self.view_is i, sym c.deref-ended.ensures i)) c.requires) c.dissolve-waiting.ensures.count

pub invariant_of-self : goal.invariant_of-self
invariant_of-self c =
    let r = c.deref-ended.result.now in
    let Out : State × Reservation → Type 0 = λ x. IsOut x.0 x.1 in
    let out = subst Out (λ i. (sym c.self.view_is i, sym c.deref-ended.ensures i)) c.requires in
    sound-withdrawn c.self.inside r c.release.new.self c.dissolve-waiting.new.self c.unpromise.new.self c.give_back.new.self c.dissolve-waiting.result c.remove.new.self c.self.invariant c.give_back.ensures out c.dissolve-waiting.ensures.count
    c.release.ensures.released c.dissolve-waiting.ensures.dissolved c.unpromise.ensures.after c.remove.ensures
    (reached_withdrawn (state_of c.self.inside) (after_withdrawal (state_of c.self.inside) r) r c.self.invariant.state (out, refl))

pub returns : goal.returns
returns c =
    let r = c.deref-ended.result.now in (
      c.requires,
      state-withdrawn c.self.inside r c.release.new.self c.dissolve-waiting.new.self c.unpromise.new.self c.give_back.new.self _ c.remove.new.self c.release.ensures.released c.dissolve-waiting.ensures.dissolved c.unpromise.ensures.after c.remove.ensures
          ∙ (λ i. after_withdrawal (c.self.view_is i) (c.deref-ended.ensures i)),
    )
