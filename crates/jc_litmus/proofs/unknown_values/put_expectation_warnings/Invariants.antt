use Rattle.jc_litmus.proofs.Common.{◌≡◌, ◌++◌, take, flat_map, warning_of}
use Rattle.jc_litmus.proofs.unknown_values.put_expectation_warnings.Given as goal

abbrev pub invariant-loop-atom : goal.invariant-loop-atom
invariant-loop-atom l = l.out.items ≡ l.fn.out.items ++ flat_map (warning_of l.program l.text) (take l.atom-index l.atoms)
