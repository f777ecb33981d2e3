use Rattle.std.proofs.Common.{arith}
use Rattle.std.proofs.lemmas.Grind.{common_steps}
use Rattle.jc_model.proofs.Whole.{legal_few, legal_of_one}
use Rattle.jc_model.proofs.checker.legal.Goals as goal
use Rattle.jc_model.proofs.checker.legal.Goals.{then-is_err-via-then-is_err, then-is_err-via-else-is_err+then-not-is_apart, then-is_err-via-else-is_err+else-not-is_apart+then-opening-config}
use Rattle.jc_model.proofs.checker.legal.Goals.{then-not-are_of_one_stripe-via-then-not-are_of_one_stripe, then-not-are_of_one_stripe-via-else-not-are_of_one_stripe+then-not-is_in_order}

pub returns-then-is_err : goal.returns-then-is_err
returns-then-is_err c =
    elim c.then-is_err.branch [
      | then-is_err-via-then-is_err w ↦ (λ no. cc, λ l. let fits = l.config_fits in grind (arith, common_steps))
      | then-is_err-via-else-is_err+then-not-is_apart w ↦ (λ no. cc, λ l. let once = l.once in cc)
      | then-is_err-via-else-is_err+else-not-is_apart+then-opening-config w ↦ (λ no. cc, λ l. let few = legal_few _ _ _ l in absurd (omega arith))
    ]

pub returns-then-not-are_of_one_stripe : goal.returns-then-not-are_of_one_stripe
returns-then-not-are_of_one_stripe c =
    elim c.then-not-are_of_one_stripe.branch [
      | then-not-are_of_one_stripe-via-then-not-are_of_one_stripe w ↦ (λ no. cc, λ l. let one = legal_of_one _ _ _ l in cc)
      | then-not-are_of_one_stripe-via-else-not-are_of_one_stripe+then-not-is_in_order w ↦ (λ no. cc, λ l. let order = l.history.order in cc)
    ]
