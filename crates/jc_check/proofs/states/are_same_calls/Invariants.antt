use Rattle.std.proofs.Common.{◌≡◌, take}
use Rattle.jc_check.proofs.states.are_same_calls.Given as goal

abbrev pub invariant-loop-at : goal.invariant-loop-at
invariant-loop-at l = take l.at l.first ≡ take l.at l.second
