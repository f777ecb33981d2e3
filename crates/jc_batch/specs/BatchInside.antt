-- The invariant of the lists in which a batch keeps its keys: the memory that they have. No contract of a public function cites
-- this.
--     AreBatchKeys    each of the three lists has room for `n` keys; the two lists of a split are empty
use Rattle.std.specs.Prelude.{◌≡◌, ◌≤◌, ℕ, [], vec_capacity}
use Rattle.std.specs.Global.{Vec}
use Rattle.jc_model.specs.Cache.{Bytes}
use Rattle.jc_batch.specs.declared.split.Split.{Split}

pub record AreBatchKeys (n : ℕ) (keys : Vec Bytes) (split : Split) : Type 0 where
  pub keys_room : n ≤ vec_capacity keys
  pub written_room : n ≤ vec_capacity split.written
  pub failed_room : n ≤ vec_capacity split.failed
  pub written : split.written.items ≡ []
  pub failed : split.failed.items ≡ []
