use Rattle.std.proofs.Common.{◌≡◌, ◌≤◌, ◌+◌, ◌++◌, length, map, vec_len, vec_capacity}
use Rattle.std.specs.List.{All}
use Rattle.std.specs.Vec.Iter.{into_iter_items, into_iter_len}
use Rattle.jc_cache.specs.Sessions.{MayCall}
use Rattle.jc_client.proofs.lists.clients.Given as goal

abbrev pub invariant-loop-session : goal.invariant-loop-session
invariant-loop-session g l = record {
  all : l.yielded ++ into_iter_items l.session-iterator ≡ into_iter_items l.initial.session-iterator;
  count : into_iter_len l.session-iterator ≡ length (into_iter_items l.session-iterator);
  may : All (λ s. MayCall l.owner.cache s) (into_iter_items l.session-iterator);
  sessions : map (λ c. c.session) l.clients.items ≡ l.yielded;
  cache : All (λ c. c.cache.now ≡ l.owner.cache) l.clients.items;
  room : vec_len l.clients + length (into_iter_items l.session-iterator) ≤ vec_capacity l.clients;
}
