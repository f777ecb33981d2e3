use Rattle.std.proofs.Common.{◌≡◌, length}
use Rattle.jc_check.proofs.smallest.clear.Given as goal

abbrev pub invariant-loop-at : goal.invariant-loop-at
invariant-loop-at l = length l.kept.items ≡ length l.initial.kept.items
