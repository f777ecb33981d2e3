use Rattle.jc_explore.proofs.Common.{◌≡◌, take, fold, print_with_position}
use Rattle.jc_explore.proofs.key.with_positions.Given as goal

abbrev pub invariant-loop-position : goal.invariant-loop-position
invariant-loop-position l = l.longer ≡ fold print_with_position l.print (take l.position-index l.positions)
