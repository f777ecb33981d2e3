use Rattle.std.proofs.Common.{◌≡◌, ◌+◌, ◌-◌, ◌≤◌, ◌++◌, vec_len, vec_capacity}
use Rattle.std.specs.Prelude.{slice_range}
use Rattle.jc_history.proofs.history.History.append_to.Given as goal

-- the events before the place are appended, and there is room for the others
abbrev pub invariant-loop-place : goal.invariant-loop-place
invariant-loop-place l = record {
  items : l.out.items ≡ l.fn.out.items ++ slice_range l.self.events l.from l.place;
  room : vec_len l.out + (l.to - l.place) ≤ vec_capacity l.out;
}
