use Rattle.jc_snapshot.proofs.Common.{take, AreNumbers, Continues}
use Rattle.jc_snapshot.proofs.table.numbers_of.Given as goal

-- the numbers of the things so far, in a table that has grown
abbrev pub invariant-loop-thing : goal.invariant-loop-thing
invariant-loop-thing g l = AreNumbers l.table (take l.thing-index l.things) l.numbers.items × Continues l.initial.table l.table
