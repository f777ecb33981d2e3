use Rattle.jc_litmus.proofs.Common.{◌≡◌, ◌++◌, take, flat_map, verdict_line}
use Rattle.jc_litmus.proofs.answer.put_verdicts.Given as goal

abbrev pub invariant-loop-expectation : goal.invariant-loop-expectation
invariant-loop-expectation l = l.out.items ≡ l.fn.out.items ++ flat_map (verdict_line l.explored) (take l.expectation-index l.expectations)
