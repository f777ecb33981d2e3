use Rattle.std.proofs.Common.{◌≡◌, ◌≤◌, take, length}
use Rattle.std.specs.Prelude.{vec_len, vec_capacity}
use Rattle.jc_batch.specs.Splitting.{successes_in, failures_in}
use Rattle.jc_batch.proofs.batch_keys.split_keys.Given as goal

abbrev pub invariant-loop-key : goal.invariant-loop-key
invariant-loop-key g l = record {
  written : l.split.written.items ≡ successes_in (g.C.Leftover.leftover_keys l.left) l.fault (take l.key-index l.keys);
  failed : l.split.failed.items ≡ failures_in (g.C.Leftover.leftover_keys l.left) l.fault (take l.key-index l.keys);
  written_len : vec_len l.split.written ≤ l.key-index;
  failed_len : vec_len l.split.failed ≤ l.key-index;
  written_room : length l.keys ≤ vec_capacity l.split.written;
  failed_room : length l.keys ≤ vec_capacity l.split.failed;
}
