use Rattle.std.proofs.Common.{◌≡◌, length}
use Rattle.jc_check.specs.Parts.{AreNeeds, IsSame, whole}
use Rattle.jc_check.proofs.smallest.Shrinking.round.Given as goal

abbrev pub invariant-loop-call : goal.invariant-loop-call
invariant-loop-call l =
    IsSame l.initial.self l.self × (length l.needs.items ≡ l.call)
    × AreNeeds l.rules (whole l.initial.self) l.opening l.initial.self.each l.kept 0 l.needs.items
