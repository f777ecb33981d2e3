use Rattle.std.proofs.Common.{◌≡◌, take}
use Rattle.std.specs.List.{fold}
use Rattle.jc_check.specs.States.{print_with}
use Rattle.jc_check.proofs.states.with_calls.Given as goal

abbrev pub invariant-loop-call : goal.invariant-loop-call
invariant-loop-call l = l.longer ≡ fold print_with l.fn.print (take l.call-index l.calls)
