-- What callers see of a `World`.
--     PlayedWorld      the world's state, and how many events of the last list were taken
use Rattle.std.specs.Prelude.{ℕ}
use Rattle.jc_world.specs.World.{WorldState}

pub record PlayedWorld : Type 0 where
  pub world : WorldState
  pub taken : ℕ
