use Rattle.jc_litmus.proofs.Common.{◌≡◌, drop, start_from}
use Rattle.jc_litmus.proofs.fault_word.start_of.Given as goal

abbrev pub invariant-loop-b : goal.invariant-loop-b
invariant-loop-b l =
    (l.at ≡ l.b-index) × (start_from l.left l.at (drop l.b-index l.line) ≡ start_from l.word 0 l.line)
