use Rattle.jc_text.proofs.Common.{◌≡◌, ◌≤◌, drop, digits_from}
use Rattle.jc_text.proofs.read.words.digits.Given as goal

abbrev pub invariant-loop-b : goal.invariant-loop-b
invariant-loop-b l = (l.n ≤ 999999999) × (digits_from l.n (drop l.b-index l.word) ≡ digits_from 0 l.word)
