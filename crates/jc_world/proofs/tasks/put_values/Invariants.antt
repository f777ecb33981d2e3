use Rattle.jc_world.proofs.Common.{◌≡◌, take, put_each_of}
use Rattle.jc_world.proofs.tasks.put_values.Given as goal

abbrev pub invariant-loop-place : goal.invariant-loop-place
invariant-loop-place l = l.ops.entries ≡ put_each_of (take l.place l.entries.entries)
