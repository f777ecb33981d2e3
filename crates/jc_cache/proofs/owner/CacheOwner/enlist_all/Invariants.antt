use Rattle.jc_cache.proofs.Common.{◌≡◌, ◌≤◌, ◌+◌, ◌++◌, length, vec_len, vec_capacity, into_iter_items, into_iter_len}
use Rattle.jc_cache.specs.Enlisting.{AreGivenOut}
use Rattle.jc_cache.proofs.owner.CacheOwner.enlist_all.Given as goal

abbrev pub invariant-loop-brought : goal.invariant-loop-brought
invariant-loop-brought g l = record {
  all : l.yielded ++ into_iter_items l.brought-iterator ≡ into_iter_items l.initial.brought-iterator;
  count : into_iter_len l.brought-iterator ≡ length (into_iter_items l.brought-iterator);
  given : AreGivenOut l.initial.self l.self l.yielded l.sessions.items;
  room : vec_len l.sessions + length (into_iter_items l.brought-iterator) ≤ vec_capacity l.sessions;
}
