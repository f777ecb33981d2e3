use Rattle.jc_script.proofs.Common.{◌≡◌, ◌++◌, looks}
use Rattle.jc_script.proofs.play.beginning.put_looks.Given as goal

abbrev pub invariant-loop-stripe : goal.invariant-loop-stripe
invariant-loop-stripe l = l.events.items ≡ l.fn.events.items ++ looks l.call 0 l.stripe
