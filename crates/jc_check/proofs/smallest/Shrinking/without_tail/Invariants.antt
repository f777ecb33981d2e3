use Rattle.std.proofs.Common.{◌≡◌, length}
use Rattle.jc_check.specs.Parts.{IsLeft, IsSame, whole}
use Rattle.jc_check.proofs.smallest.Shrinking.without_tail.Given as goal

abbrev pub invariant-loop-halving : goal.invariant-loop-halving
invariant-loop-halving l =
    IsSame l.initial.self l.self × (length l.kept.items ≡ length l.fn.kept.items)
    × IsLeft l.rules (whole l.initial.self) l.opening l.kept.items
