use Rattle.jc_cache.proofs.Common.{◌≡◌, ◌++◌, map, take, drop, live_on}
use Rattle.jc_cache.proofs.owner.live_on.Given as goal

abbrev pub invariant-loop-stripe : goal.invariant-loop-stripe
invariant-loop-stripe l = map live_on l.initial.stripes ≡ take l.stripe-index l.stripes ++ map live_on (drop l.stripe-index l.stripes)
