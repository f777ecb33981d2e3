use Rattle.std.proofs.Common.{◌≡◌, ◌≤◌, ◌+◌, ◌++◌, length, map, vec_len, vec_capacity}
use Rattle.std.specs.List.{All}
use Rattle.std.specs.Vec.Iter.{into_iter_items, into_iter_len}
use Rattle.jc_cache.specs.Sessions.{IsOf, MayCall}
use Rattle.jc_client.proofs.lists.sessions_of.Given as goal

abbrev pub invariant-loop-client : goal.invariant-loop-client
invariant-loop-client g l = record {
  all : l.yielded ++ into_iter_items l.client-iterator ≡ into_iter_items l.initial.client-iterator;
  count : into_iter_len l.client-iterator ≡ length (into_iter_items l.client-iterator);
  rest : All (λ c. c.cache.now ≡ l.owner.cache) (into_iter_items l.client-iterator);
  sessions : l.sessions.items ≡ map (λ c. c.session) l.yielded;
  own : All (λ s. IsOf l.owner.cache s) l.sessions.items;
  may : All (λ s. MayCall l.owner.cache s) l.sessions.items;
  room : vec_len l.sessions + length (into_iter_items l.client-iterator) ≤ vec_capacity l.sessions;
}
