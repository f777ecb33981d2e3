use Rattle.std.proofs.Common.{sym, ◌∙◌}
use Rattle.jc_stripe.specs.Inside.{state_of}
use Rattle.jc_stripe.specs.Reopening.{shares_key}
use Rattle.jc_stripe.proofs.AllEntries.{apart_numbers}
use Rattle.jc_stripe.proofs.stripe.Stripe.shares_key.Goals as goal

pub returns-then-self-other-2 : goal.returns-then-self-other-2
returns-then-self-other-2 c =
    sym (apart_numbers (state_of c.self.inside) (state_of c.other.inside) c.self.invariant.state c.other.invariant.state c.if-self-other.true c.if-self-other-2.true)
    ∙ (λ i. shares_key (c.self.view_is i) (c.other.view_is i))
