use Rattle.jc_explore.proofs.Common.{◌≡◌, replicate, unbegun}
use Rattle.jc_explore.proofs.scene.put_positions.Given as goal

abbrev pub invariant-loop-thread : goal.invariant-loop-thread
invariant-loop-thread l = l.positions.items ≡ replicate l._thread unbegun
