use Rattle.jc_explore.proofs.Common.{◌≡◌, take, fold, key_print_with}
use Rattle.jc_explore.proofs.key.with_bytes.Given as goal

abbrev pub invariant-loop-byte : goal.invariant-loop-byte
invariant-loop-byte l = l.longer ≡ fold key_print_with l.print (take l.byte-index l.bytes)
