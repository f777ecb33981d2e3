use Rattle.jc_litmus.proofs.Common.{◌≡◌, drop, value_of_key}
use Rattle.jc_litmus.proofs.judge.value_of_key.Given as goal

abbrev pub invariant-loop-entry : goal.invariant-loop-entry
invariant-loop-entry l = value_of_key l.key (drop l.entry-index l.entries) ≡ value_of_key l.key l.entries
