use Rattle.std.proofs.Common.{subst}
use Rattle.jc_model.specs.Legal.{Legal}
use Rattle.jc_stripe.specs.State.{State}
use Rattle.jc_stripe.specs.Inside.{state_of}
use Rattle.jc_stripe.proofs.Reaching.{reached_legal}
use Rattle.jc_stripe.proofs.stripe.Stripe.events_len.Goals as goal

pub returns-clause-legal : goal.returns-clause-legal
returns-clause-legal c =
    let P : State → Type 0 = λ s. Legal s.config s.opening s.history in
    subst P c.self.view_is (reached_legal (state_of c.self.inside) c.self.invariant.state)
