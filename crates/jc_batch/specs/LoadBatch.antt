-- The invariant of the fields of a `LoadBatch`, the keys of one `loadAll`: the memory that keys and answers have. No contract of a
-- public function cites this.
--     IsLoadBatch    the list of keys and the answers have memory for `room` further keys; no
--                    key has an answer yet
use Rattle.std.specs.Prelude.{◌≡◌, ◌≤◌, ◌+◌, ℕ, vec_len, vec_capacity}
use Rattle.std.specs.Global.{Vec}
use Rattle.jc_model.specs.Cache.{Bytes}
use Rattle.jc_batch.specs.Answers.{AnswersByKey, no_answers}

-- `places` is the number of keys that the answers have memory for
pub record IsLoadBatch (room spare places : ℕ) (keys : Vec Bytes) (answers : AnswersByKey) : Type 0 where
  pub keys_room : vec_len keys + room ≤ vec_capacity keys
  pub answers_room : room ≤ spare
  pub answers_places : vec_len keys + room ≤ places
  pub none : answers ≡ no_answers keys.items
