use Rattle.std.proofs.Common.{◌≡◌, ◌≤◌, ◌+◌, ◌++◌, reverse, vec_len, vec_capacity}
use Rattle.jc_outside.specs.CallingAll.{load_all_answer, loads_done}
use Rattle.jc_outside.proofs.calls_all.end_loads.Given as goal

-- the asks that are left are those that come last, in the other order
abbrev pub invariant-ending : goal.invariant-ending
invariant-ending g l = record {
  items : l.done.items ++ loads_done g.A.Ask.key (load_all_answer l.returned l.answers.by_key) (reverse l.asks.items)
      ≡ l.fn.done.items ++ loads_done g.A.Ask.key (load_all_answer l.returned l.answers.by_key) l.fn.asks.items;
  room : vec_len l.done + vec_len l.asks ≤ vec_capacity l.done;
  capacity : vec_capacity l.done ≡ vec_capacity l.fn.done;
  asks_capacity : vec_capacity l.asks ≡ vec_capacity l.fn.asks;
}

-- one ask less each time
abbrev pub decreases-ending : goal.decreases-ending
decreases-ending g l = vec_len l.asks
