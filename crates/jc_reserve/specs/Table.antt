-- The reservations of a stripe as a caller sees them.
--     Table      the reservations in the order of reserving, and the number of the next one
use Rattle.std.specs.Prelude.{ℕ, List}

pub record Table (R : Type 0) : Type 0 where
  pub held : List R
  pub next : ℕ
