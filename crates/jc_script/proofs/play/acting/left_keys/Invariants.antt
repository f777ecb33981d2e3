use Rattle.jc_script.proofs.Common.{◌≡◌, take, left_keys}
use Rattle.jc_script.proofs.play.acting.left_keys.Given as goal

abbrev pub invariant-loop-key : goal.invariant-loop-key
invariant-loop-key l = l.left.keys ≡ left_keys l.world.world l.call l.act (take l.key-index l.keys)
