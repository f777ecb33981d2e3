use Rattle.jc_cache.proofs.Common.{ℕ, ◌≡◌, ◌≤◌, ◌+◌, ◌++◌, length, map, vec_len, vec_capacity, All, into_iter_items, into_iter_len, HasFront, all_lent, lent_at, KeepSeats, Whatever, HaveTaken}
use Rattle.jc_cache.proofs.closing.own_seats.join_all.Given as goal

abbrev pub invariant-loop-session : goal.invariant-loop-session
invariant-loop-session g l = record {
  all : l.yielded ++ into_iter_items l.session-iterator ≡ into_iter_items l.initial.session-iterator;
  count : into_iter_len l.session-iterator ≡ length (into_iter_items l.session-iterator);
  keeps : KeepSeats Whatever l.initial.own.items l.own.items;
  taken : HaveTaken l.own.items l.stripes;
  handed : (i : ℕ) → lent_at l.own.items i ≡ lent_at l.initial.own.items i ++ all_lent l.yielded i;
  fronts : All (λ s. HasFront l.stripes s.seats.items) l.yielded;
  outside : l.outside.items ≡ l.initial.outside.items ++ map (λ s. s.agent.hands.outside) l.yielded;
  room : vec_len l.outside + length (into_iter_items l.session-iterator) ≤ vec_capacity l.outside;
}
