use Rattle.jc_explore.proofs.Common.{◌≡◌, moves_up_to}
use Rattle.jc_explore.proofs.moves.moves_up_to.Given as goal

abbrev pub invariant-loop-thread : goal.invariant-loop-thread
invariant-loop-thread l = l.moves.items ≡ moves_up_to l.thread
