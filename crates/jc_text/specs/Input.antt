-- That all bytes of a reader were taken, within a limit.
--     ReadsAll    all the bytes of a reader were taken, and they are these, within the limit
use Rattle.std.specs.Prelude.{◌≤◌, ℕ, List, length, Option}
use Rattle.std.specs.Io.KnownBytes.{Consumes, IsAtEnd}
use Rattle.jc_types.specs.declared.limits.TheConstants.{SCRIPT_MAX}

pub record ReadsAll (before after : Option (List ℕ)) (input : List ℕ) : Type 0 where
  pub taken : Consumes before after input
  pub at_end : IsAtEnd after
  pub fits : length input ≤ SCRIPT_MAX
