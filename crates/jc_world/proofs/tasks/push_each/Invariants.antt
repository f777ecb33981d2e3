use Rattle.jc_world.proofs.Common.{◌≡◌, ◌++◌, open_in, reported_keys, parts_of}
use Rattle.jc_world.proofs.tasks.push_each.Given as goal

abbrev pub invariant-loop-key : goal.invariant-loop-key
invariant-loop-key l =
    l.reported.items ++ reported_keys l.batch (parts_of l.held) l.call (open_in l.key-iterator)
    ≡ l.fn.reported.items ++ reported_keys l.batch (parts_of l.held) l.call (open_in l.ops.entries)
