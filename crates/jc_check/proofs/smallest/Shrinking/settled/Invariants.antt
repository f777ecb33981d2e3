use Rattle.std.proofs.Common.{◌≡◌, length}
use Rattle.jc_check.specs.Parts.{IsLeft, IsSame, whole}
use Rattle.jc_check.proofs.smallest.Shrinking.settled.Given as goal

abbrev pub invariant-loop-round : goal.invariant-loop-round
invariant-loop-round l =
    IsSame l.initial.self l.self × (length l.kept.items ≡ length l.fn.kept.items)
    × IsLeft l.rules (whole l.initial.self) l.opening l.kept.items
