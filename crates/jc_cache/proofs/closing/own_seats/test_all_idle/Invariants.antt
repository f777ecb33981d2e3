use Rattle.jc_cache.proofs.Common.{[], KeepSeats, LeavesUnchanged, HaveTaken}
use Rattle.jc_cache.proofs.Noted.{AreAsBefore, AreIdleBelow}
use Rattle.jc_cache.proofs.closing.own_seats.test_all_idle.Given as goal

abbrev pub invariant-loop-i : goal.invariant-loop-i
invariant-loop-i l = record {
  keeps : KeepSeats LeavesUnchanged l.initial.own.items l.own.items;
  free : HaveTaken l.own.items [];
  rest : AreAsBefore l.i l.initial.own.items l.own.items;
  idle : AreIdleBelow l.i l.initial.own.items l.own.items;
}
