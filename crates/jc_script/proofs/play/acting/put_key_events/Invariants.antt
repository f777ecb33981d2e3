use Rattle.jc_script.proofs.Common.{◌≡◌, take, key_events}
use Rattle.jc_script.proofs.play.acting.put_key_events.Given as goal

abbrev pub invariant-loop-key : goal.invariant-loop-key
invariant-loop-key l = l.events.items ≡ key_events l.world.world l.call l.act (take l.key-index l.keys)
