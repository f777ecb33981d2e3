use Rattle.std.proofs.Common.{◌≡◌, take}
use Rattle.std.specs.List.{Any}
use Rattle.jc_check.proofs.reasons.has_spot.Given as goal

abbrev pub invariant-loop-other : goal.invariant-loop-other
invariant-loop-other l = Any (λ s. s ≡ l.fn.spot) (take l.other-index l.spots) → ⊥
