use Rattle.std.proofs.Common.{◌≡◌, take}
use Rattle.jc_model.specs.Processor.{last_mutation}
use Rattle.jc_check.specs.Spot.{calls_of}
use Rattle.jc_check.proofs.sights.last_mutation.Given as goal

abbrev pub invariant-loop-sight : goal.invariant-loop-sight
invariant-loop-sight l = l.last ≡ last_mutation (calls_of (take l.sight-index l.sights))
