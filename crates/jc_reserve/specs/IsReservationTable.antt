-- The invariant of the table of a stripe's reservations.
--     IsReservationTable    at most RESERVATIONS_MAX keys are reserved, none of them twice, by numbers that rise and are all
--                           below the next one
use Rattle.std.specs.Prelude.{◌≡◌, ◌<◌, ◌≤◌, ℕ, length, false, All, AllPairs}
use Rattle.jc_model.specs.Cache.{Bytes}
use Rattle.jc_types.specs.declared.limits.TheConstants.{RESERVATIONS_MAX}
use Rattle.jc_reserve.specs.Table.{Table}
use Rattle.jc_reserve.specs.Reserving.{has_key}

pub record IsReservationTable {R : Type 0} (key_of : R → Bytes) (number_of : R → ℕ) (table : Table R) : Type 0 where
  pub few : length table.held ≤ RESERVATIONS_MAX
  pub once : AllPairs (λ r later. has_key key_of (key_of r) later ≡ false) table.held
  pub rising : AllPairs (λ r later. number_of r < number_of later) table.held
  pub below : All (λ r. number_of r < table.next) table.held
