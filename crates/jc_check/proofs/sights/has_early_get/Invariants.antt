use Rattle.std.proofs.Common.{◌≡◌, drop}
use Rattle.jc_model.specs.Processor.{before_mutation, has_get}
use Rattle.jc_check.specs.Spot.{calls_of}
use Rattle.jc_check.proofs.sights.has_early_get.Given as goal

abbrev pub invariant-loop-sight : goal.invariant-loop-sight
invariant-loop-sight l = has_get (before_mutation (calls_of l.sights)) ≡ has_get (before_mutation (calls_of (drop l.sight-index l.sights)))
