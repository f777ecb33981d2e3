use Rattle.jc_litmus.proofs.Common.{◌≡◌, ◌++◌, take, flat_map, expectation_warnings}
use Rattle.jc_litmus.proofs.unknown_values.put_all_expectation_warnings.Given as goal

abbrev pub invariant-loop-expectation : goal.invariant-loop-expectation
invariant-loop-expectation l = l.out.items ≡ l.fn.out.items ++ flat_map (expectation_warnings l.program) (take l.expectation-index l.expectations)
