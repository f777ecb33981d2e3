use Rattle.std.proofs.Common.{◌≡◌, ℕ, List, length}
use Rattle.jc_check.specs.declared.record.Recorded.{Recorded}
use Rattle.jc_check.specs.declared.record.Rules.{Rules}
use Rattle.jc_check.specs.declared.record.Spot.{Spot}
use Rattle.jc_check.specs.Parts.{AreNeeds}
use Rattle.jc_check.proofs.smallest.untried.Given as goal

abbrev pub invariant-loop-call : goal.invariant-loop-call
invariant-loop-call l =
    (length l.needs.items ≡ l.call)
    × ((rules : Rules) (calls : List Recorded) (opening : Spot) (limit : ℕ) → AreNeeds rules calls opening limit l.kept 0 l.needs.items)
