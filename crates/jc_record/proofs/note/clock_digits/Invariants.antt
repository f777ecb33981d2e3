use Rattle.jc_record.proofs.Common.{◌≡◌, ◌≤◌, drop}
use Rattle.jc_record.specs.Notes.{clock_from}
use Rattle.jc_record.proofs.note.clock_digits.Given as goal

abbrev pub invariant-loop-b : goal.invariant-loop-b
invariant-loop-b l = (l.n ≤ 9999999999999999999) × (clock_from l.n (drop l.b-index l.word) ≡ clock_from 0 l.word)
