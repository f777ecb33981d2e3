use Rattle.std.proofs.Common.{⊎_elim, ℕ, Option, Some, ◌≡◌, subst, sym}
use Rattle.jc_stripe.specs.State.{State}
use Rattle.jc_lock.specs.Views.{IsTurnBy}
use Rattle.jc_gate.proofs.locked.RefHistLockGate.give.Goals as goal

pub give-requires-clause-phase : goal.give-requires-clause-phase
give-requires-clause-phase c =
    let view = c.args.token.now.1 in
    let speaks : view.session ≡ Some c.requires.0 = ⊎_elim (λ speaks. speaks) (λ none. absurd none) c.requires.2 in
    subst (λ (session : Option ℕ). IsTurnBy session view.noted c.args.stripe.value) (sym speaks)
    (subst (λ (noted : State). IsTurnBy (Some c.requires.0) noted c.args.stripe.value) (sym c.requires.3.2) c.requires.4)
