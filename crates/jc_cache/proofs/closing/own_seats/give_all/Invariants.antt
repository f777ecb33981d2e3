use Rattle.jc_cache.proofs.Common.{ℕ, ◌≡◌, ◌≤◌, length, slice_get, KeepSeats, LeavesUnchanged, HaveTaken}
use Rattle.jc_cache.proofs.closing.own_seats.give_all.Given as goal

abbrev pub invariant-loop-closed : goal.invariant-loop-closed
invariant-loop-closed l = record {
  keeps : KeepSeats LeavesUnchanged l.initial.own.items l.own.items;
  taken : HaveTaken l.own.items l.stripes.items;
  most : length l.stripes.items ≤ length l.initial.stripes.items;
  rest : (i : ℕ) → length l.initial.stripes.items ≤ i → slice_get l.own.items i ≡ slice_get l.initial.own.items i;
}

abbrev pub decreases-loop-closed : goal.decreases-loop-closed
decreases-loop-closed l = length l.stripes.items
