-- What each function that encodes a part of an event does to the bytes of a history. No contract of a public function cites this.
--     Appends    these bytes are appended, at most `most` of them, and the capacity doesn't shrink
use Rattle.std.specs.Prelude.{◌≡◌, ℕ, ◌+◌, ◌≤◌, List, ◌++◌, vec_len, vec_capacity}
use Rattle.std.specs.Global.{Vec}

-- these bytes are appended, at most `most` of them, and the capacity doesn't shrink
pub record Appends (old new : Vec ℕ) (bytes : List ℕ) (most : ℕ) : Type 0 where
  pub items : new.items ≡ old.items ++ bytes
  pub few : vec_len new ≤ vec_len old + most
  pub capacity : vec_capacity old ≤ vec_capacity new
