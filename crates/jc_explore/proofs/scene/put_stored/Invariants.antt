use Rattle.jc_explore.proofs.Common.{◌≡◌, drop, true, with_all_stored}
use Rattle.jc_explore.proofs.scene.put_stored.Given as goal

abbrev pub invariant-loop-key : goal.invariant-loop-key
invariant-loop-key l = record {
  fresh : l.world.world.is_fresh ≡ true;
  left : with_all_stored l.world.world (drop l.key-index l.stored) ≡ with_all_stored l.fn.world.world l.stored;
}
