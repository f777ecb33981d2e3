-- Readers and writers of bytes that keep a note of whether a call of them has failed (`Noted`). No contract of a public function
-- cites this.
--     Noting            a reader or a writer, and whether a call of it has failed
--     is_failed_write   whether this answer to a write of these bytes is a failure: an error, or none of some bytes taken
use Rattle.std.specs.Prelude.{ℕ, List, [], ◌∷◌, Bool, true, false, ◌==◌, Result, Ok, Err}

pub record Noting (S : Type 0) : Type 0 where
  pub inner : S
  pub failed : Bool

abbrev pub is_failed_write : {E : Type 0} → Result ℕ E → List ℕ → Bool
is_failed_write (Err e) bytes = true
is_failed_write (Ok n) [] = false
is_failed_write (Ok n) (b ∷ bs) = n == 0
