use Rattle.std.proofs.Common.{◌≡◌, take}
use Rattle.jc_store.proofs.Batches.{answers_by, values_at}
use Rattle.jc_store.proofs.store.Store.read_all.Given as goal

abbrev pub invariant-loop-key : goal.invariant-loop-key
invariant-loop-key l = record {
  answers : l.answers.by_key ≡ answers_by (values_at l.self (take l.key-index l.keys)) l.keys;
  room : l.answers.room ≡ l.fn.answers.room;
}
