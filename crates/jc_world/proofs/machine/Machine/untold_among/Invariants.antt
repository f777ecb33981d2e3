use Rattle.jc_world.proofs.Common.{◌≡◌, take}
use Rattle.jc_world.specs.Audit.{untold_among}
use Rattle.jc_world.proofs.machine.Machine.untold_among.Given as goal

-- the keys of the entries so far that are untold
abbrev pub invariant-loop-entry : goal.invariant-loop-entry
invariant-loop-entry l = l.keys.items ≡ untold_among l.self (take l.entry-index l.foreign)
