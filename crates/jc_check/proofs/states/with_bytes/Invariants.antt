use Rattle.std.proofs.Common.{◌≡◌, take}
use Rattle.std.specs.List.{fold}
use Rattle.jc_check.specs.States.{print_with}
use Rattle.jc_check.proofs.states.with_bytes.Given as goal

abbrev pub invariant-loop-byte : goal.invariant-loop-byte
invariant-loop-byte l = l.longer ≡ fold print_with l.fn.print (take l.byte-index l.bytes)
