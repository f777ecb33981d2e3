-- The default `write_all` and `delete_all` of a writer: they try each member once, in their order, and leave those that failed.
--     WritesOne                  an entry was written, and the flag tells whether that failed; the entry's value stays
--     WritesEach                 each entry was written once, from the writer before to some later one, and exactly those that
--                                failed are left; the whole is a success exactly if none is left
--     DeletesOne, DeletesEach    the same for keys, and deletes
use Rattle.std.specs.Prelude.{◌≡◌, ◌↔◌, ℕ, Bool, List, [], Result, is_err, IsOk}
use Rattle.std.specs.Map.Calls.{RetainsPairs}
use Rattle.std.specs.List.Retain.{IsFiltered}
use Rattle.jc_model.specs.Cache.{Bytes}
use Rattle.jc_model.specs.declared.event.Change.{Change}
use Rattle.jc_model.specs.declared.event.Change.TheVariants.{Write, Delete}

module _ {W : Type 0} (writes : W → Bytes → Change → Result (Unit {0}) ℕ → List ℕ → Type 0) (state : W → List ℕ) where
  abbrev pub WritesOne : W → Bytes → Bytes → Bool → Bytes → W → Type 0
  WritesOne before key value failed left after =
      (answer : Result (Unit {0}) ℕ) × writes before key (Write value) answer (state after)
      × (failed ≡ is_err answer) × (left ≡ value)

  abbrev pub WritesEach : W → List (Bytes × Bytes) → Result (Unit {0}) ℕ → List (Bytes × Bytes) → Type 0
  WritesEach w entries result left = RetainsPairs WritesOne w entries left × (IsOk result ↔ (left ≡ []))

  abbrev pub DeletesOne : W → Bytes → Bool → W → Type 0
  DeletesOne before key failed after =
      (answer : Result (Unit {0}) ℕ) × writes before key Delete answer (state after) × (failed ≡ is_err answer)

  abbrev pub DeletesEach : W → List Bytes → Result (Unit {0}) ℕ → List Bytes → Type 0
  DeletesEach w keys result left = IsFiltered DeletesOne w keys left × (IsOk result ↔ (left ≡ []))
