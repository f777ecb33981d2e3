use Rattle.jc_world.proofs.Common.{◌≡◌, ◌++◌, drop}
use Rattle.jc_stripe.specs.Reopening.{all_entries}
use Rattle.jc_world.proofs.machine.reopening.all_entries.Given as goal

-- what was appended so far, and what the other stripes cache
abbrev pub invariant-loop-stripe : goal.invariant-loop-stripe
invariant-loop-stripe l = l.entries.items ++ all_entries (drop l.stripe-index l.stripes) ≡ all_entries l.stripes
