use Rattle.std.proofs.Common.{◌≡◌, take}
use Rattle.jc_check.specs.Parts.{forget}
use Rattle.jc_check.proofs.smallest.forget.Given as goal

abbrev pub invariant-loop-at : goal.invariant-loop-at
invariant-loop-at l = l.calls.items ≡ forget (take l.at l.kept) l.initial.calls.items
