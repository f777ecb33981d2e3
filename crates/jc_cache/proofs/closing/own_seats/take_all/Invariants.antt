use Rattle.jc_cache.proofs.Common.{◌≡◌, ◌≤◌, length, vec_capacity, logs_of, KeepSeats, LeavesUnchanged, HaveTaken}
use Rattle.jc_cache.proofs.closing.own_seats.take_all.Given as goal

abbrev pub invariant-loop-i : goal.invariant-loop-i
invariant-loop-i l = record {
  keeps : KeepSeats LeavesUnchanged l.initial.own.items l.own.items;
  taken : HaveTaken l.own.items l.stripes.items;
  logs : logs_of l.own.items ≡ logs_of l.initial.own.items;
  long : l.i ≡ length l.stripes.items;
  room : length l.locks ≤ vec_capacity l.stripes;
}
