use Rattle.jc_cache.proofs.Common.{◌≡◌, ◌++◌, List, length, TableId, View, KeepSeats, Whatever, HaveTaken}
use Rattle.jc_cache.proofs.ClosingSeats.{HandedFrom, HasFrontFrom}
use Rattle.jc_cache.proofs.closing.own_seats.join_seats.Given as goal

abbrev pub invariant-loop-seat : goal.invariant-loop-seat
invariant-loop-seat l = record {
  keeps : KeepSeats Whatever l.initial.own.items l.own.items;
  taken : HaveTaken l.own.items l.stripes;
  done : (done : List (TableId × View)) × (l.initial.seats.items ≡ l.seats.items ++ done);
  handed : HandedFrom (length l.seats.items) l.initial.own.items l.initial.seats.items l.own.items;
  front : HasFrontFrom (length l.seats.items) l.stripes l.initial.seats.items;
}

abbrev pub decreases-loop-seat : goal.decreases-loop-seat
decreases-loop-seat l = length l.seats.items
