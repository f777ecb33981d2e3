use Rattle.std.proofs.Common.{◌≡◌, List, length}
use Rattle.jc_check.specs.declared.record.Recorded.{Recorded}
use Rattle.jc_check.specs.Parts.{forget}
use Rattle.jc_check.proofs.smallest.all_kept.Given as goal

abbrev pub invariant-loop-call : goal.invariant-loop-call
invariant-loop-call l = (length l.kept.items ≡ l._call) × ((calls : List Recorded) → forget l.kept.items calls ≡ calls)
