use Rattle.jc_cache.proofs.Common.{◌≡◌, ◌≤◌, ◌++◌, length, map, vec_len, vec_capacity, into_iter_items, into_iter_len, whole_history, noted_by, fronts_of}
use Rattle.jc_cache.proofs.Rows.{locks_of}
use Rattle.jc_cache.proofs.Noted.{AreFirst}
use Rattle.jc_cache.proofs.owner.locks.Given as goal

abbrev pub invariant-loop-stripe : goal.invariant-loop-stripe
invariant-loop-stripe l = record {
  all : l.yielded ++ into_iter_items l.stripe-iterator ≡ into_iter_items l.initial.stripe-iterator;
  count : into_iter_len l.stripe-iterator ≡ length (into_iter_items l.stripe-iterator);
  noted : noted_by l.seats.items ≡ l.yielded;
  fronts : fronts_of l.seats.items ≡ map whole_history l.yielded;
  own : locks_of l.seats.items ≡ l.locks.items;
  first : AreFirst l.seats.items;
  long : vec_len l.locks ≡ length l.yielded;
  seated : vec_len l.seats ≡ length l.yielded;
  room : l.config.stripes ≤ vec_capacity l.locks;
  rooms : l.config.stripes ≤ vec_capacity l.seats;
}
