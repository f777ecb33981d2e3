use Rattle.jc_rounds.proofs.Common.{◌≡◌, ◌≤◌, vec_capacity, all_waiting}
use Rattle.jc_rounds.proofs.bulk_call.all_waiting.Given as goal

abbrev pub invariant-loop-place : goal.invariant-loop-place
invariant-loop-place l = record {
  items : l.progress.items ≡ all_waiting l.place;
  room : l.keys ≤ vec_capacity l.progress;
}
