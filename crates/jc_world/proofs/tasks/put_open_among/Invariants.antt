use Rattle.jc_world.proofs.Common.{◌≡◌, ◌++◌, open_in}
use Rattle.jc_world.proofs.tasks.put_open_among.Given as goal

abbrev pub invariant-loop-key : goal.invariant-loop-key
invariant-loop-key l = l.keys.items ++ open_in l.key-iterator ≡ l.fn.keys.items ++ open_in l.ops.entries
