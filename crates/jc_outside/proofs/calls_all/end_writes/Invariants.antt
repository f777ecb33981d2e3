use Rattle.std.proofs.Common.{◌≡◌, ◌≤◌, ◌+◌, ◌++◌, reverse, map, vec_len, vec_capacity}
use Rattle.jc_model.specs.Batches.{answer_in_batch}
use Rattle.jc_batch.specs.Splitting.{AreOutcomes}
use Rattle.jc_outside.specs.CallingAll.{writes_done}
use Rattle.jc_outside.proofs.calls_all.end_writes.Given as goal

-- the asks that are left are those that come last, in the other order
abbrev pub invariant-ending : goal.invariant-ending
invariant-ending g l = record {
  items : l.done.items ++ writes_done g.A.Ask.key (answer_in_batch (g.C.Leftover.leftover_keys l.left) l.fn.fault) (reverse l.asks.items)
      ≡ l.fn.done.items ++ writes_done g.A.Ask.key (answer_in_batch (g.C.Leftover.leftover_keys l.left) l.fn.fault) l.fn.asks.items;
  outcomes : AreOutcomes (g.C.Leftover.leftover_keys l.left) l.fn.fault (map g.A.Ask.key (reverse l.asks.items)) l.outcomes.written.now l.outcomes.failed.now;
  room : vec_len l.done + vec_len l.asks ≤ vec_capacity l.done;
  capacity : vec_capacity l.done ≡ vec_capacity l.fn.done;
}

-- one ask less each time
abbrev pub decreases-ending : goal.decreases-ending
decreases-ending g l = vec_len l.asks
