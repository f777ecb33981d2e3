use Rattle.std.proofs.Common.{◌≡◌, ◌∙◌, Some, sym, subst}
use Rattle.jc_inflight.specs.Taking as taking
use Rattle.jc_stripe.specs.State.{State, IsJoined}
use Rattle.jc_stripe.specs.Inside.{state_of}
use Rattle.jc_stripe.specs.Phases.{told_to}
use Rattle.jc_stripe.specs.Appending.{HasToldStep}
use Rattle.jc_stripe.proofs.Picking.{pick_sound, joined_told, told_step}
use Rattle.jc_stripe.proofs.stripe.Stripe.take.Goals as goal

heard : (c : goal.In-Some) → told_to (state_of c.self.inside) c.args.join.now ≡ Some c.in-Some.state
heard c = (λ i. taking.join_state_of (sym c.caller.ensures i) (sym c.key.ensures i) c.self.inside.joiners) ∙ sym c.take.ensures.state ∙ c.in-Some.is

pub unreachable-requires : goal.unreachable-requires
unreachable-requires c =
    let Joined : State → Type 0 = λ s. IsJoined s c.args.join.now in
    joined_told (state_of c.self.inside) c.args.join.now (subst Joined (sym c.self.view_is) c.requires)
    ((λ i. taking.join_state_of (sym c.caller.ensures i) (sym c.key.ensures i) c.self.inside.joiners) ∙ sym c.take.ensures.state ∙ c.in-None.is)

pub invariant_of-self : goal.invariant_of-self
invariant_of-self c =
    pick_sound c.self.inside c.args.join.now c.take.new.self c.in-Some.state c.self.invariant (heard c)
    (c.take.ensures.left ∙ (λ i. taking.joiners_after_take (c.caller.ensures i) (c.key.ensures i) c.self.inside.joiners))

pub returns-clause-step : goal.returns-clause-step
returns-clause-step c =
    let P : State → Type 0 = λ s. HasToldStep s c.args.join.now c.in-Some.state in
    subst P c.self.view_is (told_step (state_of c.self.inside) c.args.join.now c.in-Some.state c.self.invariant.state.joins (heard c))
