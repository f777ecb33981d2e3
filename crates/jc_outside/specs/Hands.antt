-- What contracts see of a session's hands, which count the stripes that it has taken and not given back.
--     HandsState    the number of stripes that the session has taken and not given back, and what it brings for calls outside
use Rattle.std.specs.Prelude.{ℕ}

pub record HandsState (T : Type 0) : Type 0 where
  pub held : ℕ
  pub outside : T
