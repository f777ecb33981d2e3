-- The meaning of the fields of `Reservations`, and their invariant. Callers see the table alone. No contract of a public function
-- cites this.
--     table_of     the table that the fields mean
--     HasTable     the keys are those of the reservations, and the table satisfies `IsReservationTable`
use Rattle.std.specs.Prelude.{◌≡◌, ℕ, map}
use Rattle.jc_model.specs.Cache.{Bytes}
use Rattle.jc_reserve.specs.Table.{Table}
use Rattle.jc_reserve.specs.IsReservationTable.{IsReservationTable}
use Rattle.jc_reserve.specs.declared.reservations.Reservations.TheInside.{Inside}

abbrev pub table_of : {R : Type 0} → Inside R → Table R
table_of r = record { held = r.held.items; next = r.next }

pub record HasTable {R : Type 0} (key_of : R → Bytes) (number_of : R → ℕ) (r : Inside R) : Type 0 where
  pub keys : r.keys.items ≡ map key_of r.held.items
  pub table : IsReservationTable key_of number_of (table_of r)
