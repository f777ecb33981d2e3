-- Looking a key up in the table of a stripe's reservations, reserving it and releasing it. The key of a reservation is what its
-- type states.
--     has_key        whether a reservation is of this key
--     is_held        whether the key is reserved
--     reservation_at the reservation of the key, or none
--     CanReserve     the key can be reserved: there is room, it is free, and a number is left
--     table_with     the table with one more reservation, by the next number
--     table_without  the table with the reservations of the other keys
use Rattle.std.specs.Prelude.{◌==◌, ◌<◌, ◌+◌, find, filter, [], ◌∷◌, ◌++◌, length, Bool, not, Option, ◌≡◌, false}
use Rattle.std.specs.List.{list_any}
use Rattle.std.specs.Cmp.Lexicographic.{pointwise}
use Rattle.jc_model.specs.Cache.{Bytes}
use Rattle.jc_types.specs.declared.limits.TheConstants.{RESERVATIONS_MAX, LAST_NUMBER}
use Rattle.jc_reserve.specs.Table.{Table}

abbrev pub has_key : {R : Type 0} → (R → Bytes) → Bytes → R → Bool
has_key key_of key r = pointwise ◌==◌ key (key_of r)

abbrev pub is_held : {R : Type 0} → (R → Bytes) → Table R → Bytes → Bool
is_held key_of table key = list_any (has_key key_of key) table.held

abbrev pub reservation_at : {R : Type 0} → (R → Bytes) → Table R → Bytes → Option R
reservation_at key_of table key = find (has_key key_of key) table.held

pub record CanReserve {R : Type 0} (key_of : R → Bytes) (table : Table R) (key : Bytes) : Type 0 where
  pub room : length table.held < RESERVATIONS_MAX
  pub free : is_held key_of table key ≡ false
  pub number : table.next < LAST_NUMBER

abbrev pub table_with : {R : Type 0} → Table R → R → Table R
table_with table r = record { held = table.held ++ r ∷ []; next = table.next + 1 }

abbrev pub table_without : {R : Type 0} → (R → Bytes) → Table R → Bytes → Table R
table_without key_of table key = record { held = filter (λ r. not (has_key key_of key r)) table.held; next = table.next }
