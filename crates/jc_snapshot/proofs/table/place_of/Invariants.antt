use Rattle.std.proofs.Common.{◌≡◌, ℕ, ◌<◌, Some, slice_get}
use Rattle.jc_snapshot.proofs.table.place_of.Given as goal

-- it isn't at the places so far
abbrev pub invariant-loop-place : goal.invariant-loop-place
invariant-loop-place g l = (n : ℕ) → n < l.place → slice_get l.things n ≡ Some l.thing → ⊥
