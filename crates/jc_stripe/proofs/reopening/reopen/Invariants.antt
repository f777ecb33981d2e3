use Rattle.std.proofs.Common.{◌≡◌, ◌≤◌, All, vec_len, vec_capacity}
use Rattle.jc_stripe.specs.Reached.{IsReached}
use Rattle.jc_stripe.specs.Reopening.{opened_stripes}
use Rattle.jc_stripe.proofs.reopening.reopen.Given as goal

abbrev pub invariant-loop-number : goal.invariant-loop-number
invariant-loop-number l =
    (l.stripes.items ≡ opened_stripes l.config l.origin l.entries 0 l.number)
    × (vec_len l.stripes ≡ l.number)
    × (l.config.stripes ≤ vec_capacity l.stripes)
    × All IsReached l.stripes.items
