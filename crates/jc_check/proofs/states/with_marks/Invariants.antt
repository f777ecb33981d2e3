use Rattle.std.proofs.Common.{◌≡◌, take}
use Rattle.std.specs.List.{fold}
use Rattle.jc_check.specs.States.{print_with_mark}
use Rattle.jc_check.proofs.states.with_marks.Given as goal

abbrev pub invariant-loop-mark : goal.invariant-loop-mark
invariant-loop-mark l = l.longer ≡ fold print_with_mark l.fn.print (take l.mark-index l.marks)
