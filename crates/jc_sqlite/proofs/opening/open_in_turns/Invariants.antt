use Rattle.std.proofs.Common.{◌-◌}
use Rattle.jc_sqlite.proofs.Turns.{Turns}
use Rattle.jc_sqlite.proofs.opening.open_in_turns.Given as goal

abbrev pub invariant-loop : goal.invariant-loop
invariant-loop g l = Turns g.O.Opening.opens g.O.Opening.pauses l.retries (l.retries - l.counter) l.fn.opening l.opening
