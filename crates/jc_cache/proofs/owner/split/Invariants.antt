use Rattle.jc_cache.proofs.Common.{◌≡◌, ◌+◌, ◌≤◌, ◌++◌, map, take, drop, length, vec_len, vec_capacity, after_split, session_view}
use Rattle.jc_cache.proofs.Rows.{Seated}
use Rattle.jc_cache.proofs.owner.split.Given as goal

abbrev pub invariant-loop-i : goal.invariant-loop-i
invariant-loop-i l = record {
  own : l.own.items ≡ map (λ (seat : Seated). (seat.0, after_split seat.1)) (take l.i l.fn.own.items) ++ drop l.i l.fn.own.items;
  seats : l.seats.items ≡ l.fn.seats.items ++ map (λ (seat : Seated). (seat.0, session_view seat.1)) (take l.i l.fn.own.items);
  long : length l.fn.own.items ≡ length l.locks;
  seated : vec_len l.seats ≡ vec_len l.fn.seats + l.i;
  room : vec_len l.fn.seats + length l.locks ≤ vec_capacity l.seats;
}
