use Rattle.jc_world.proofs.Common.{◌≡◌, take, differing}
use Rattle.jc_world.proofs.machine.Machine.differing.Given as goal

-- the keys of the entries so far that differ
abbrev pub invariant-loop-entry : goal.invariant-loop-entry
invariant-loop-entry l = l.keys.items ≡ differing l.self (take l.entry-index l.entries)
