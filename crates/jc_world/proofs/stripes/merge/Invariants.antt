use Rattle.jc_world.proofs.Common.{◌≡◌, ℕ, ◌+◌, ◌-◌, ◌<◌, ◌≤◌, length, get_or, take, vec_len, vec_capacity, STRIPES_MAX, history_at, turns_of, merge}
use Rattle.jc_world.proofs.stripes.merge.Given as goal

-- the merge of the first turns, how many of them each stripe had, and there is room for the others
abbrev pub invariant-loop-turn : goal.invariant-loop-turn
invariant-loop-turn l = record {
  made : l.order.items ≡ merge (history_at l.stripes) (take l.turn-index l.turns);
  counts : (n : ℕ) → n < STRIPES_MAX → get_or l.taken n 0 ≡ turns_of n (take l.turn-index l.turns);
  count : length l.taken ≡ STRIPES_MAX;
  room : vec_len l.order + (length l.turns - l.turn-index) ≤ vec_capacity l.order;
}
