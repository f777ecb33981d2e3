use Rattle.jc_world.proofs.Common.{◌≡◌, true, has_looked_at_each}
use Rattle.jc_world.proofs.sweep.has_looked_at_each.Given as goal

abbrev pub invariant-loop-stripe : goal.invariant-loop-stripe
invariant-loop-stripe l = has_looked_at_each l.looked l.stripe-counter ≡ true
