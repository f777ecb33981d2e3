use Rattle.jc_world.proofs.Restarting.{AreRestarted}
use Rattle.jc_world.proofs.stripes.restart_each.Given as goal

-- the first of them are empty
abbrev pub invariant-loop-stripe : goal.invariant-loop-stripe
invariant-loop-stripe l = AreRestarted l.config l.stripe-index l.stripes
