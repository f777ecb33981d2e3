-- What keeps a table of reservations as every table is.
use Rattle.std.proofs.Common.{◌≡◌, ◌∙◌, ℕ, Some, None, ap, sym, ◌<◌, ◌+◌, ◌==◌, true, false, List, length, map, get_or, not, refl, arith, length-append}
use Rattle.std.proofs.lemmas.List.Elements.{All-push, All-filter}
use Rattle.std.proofs.lemmas.List.Folds.{list_any_at}
use Rattle.std.proofs.lemmas.List.Kept.{AllPairs-filter}
use Rattle.std.proofs.lemmas.List.Quantifiers.{all_pairs_push}
use Rattle.std.proofs.lemmas.List.Sums.{length-filter, count_by-le-length}
use Rattle.std.specs.Cmp.Lexicographic.{pointwise, nat_list_eq_equiv, same_text}
use Rattle.std.specs.List.{list_any, position, remove}
use Rattle.jc_model.specs.Cache.{Bytes}
use Rattle.jc_reserve.specs.Table.{Table}
use Rattle.jc_reserve.specs.Reserving.{has_key, CanReserve, table_with, table_without}
use Rattle.jc_reserve.specs.IsReservationTable.{IsReservationTable}
use Rattle.jc_types.proofs.CallerLemmas.{position_map, remove_at_place, filter_nowhere}

module _ {R : Type 0} (key_of : R → Bytes) (number_of : R → ℕ) where
  -- a free key is that of no reservation
  other_key : (key : Bytes) (held : List R) (k : ℕ) (d : R) → k < length held → list_any (has_key key_of key) held ≡ false → pointwise ◌==◌ (key_of (get_or held k d)) key ≡ false
  other_key key held k d within free =
      elim (pointwise ◌==◌ (key_of (get_or held k d)) key) as (λ b. pointwise ◌==◌ (key_of (get_or held k d)) key ≡ b → b ≡ false) [
        | true ↦ λ e. let found = list_any_at (has_key key_of key) held k d within (nat_list_eq_equiv.symm key (key_of (get_or held k d)) ∙ e) in cc
        | false ↦ λ e. refl
      ] refl

  pub IsReservationTable-with : (table : Table R) (r : R) → IsReservationTable key_of number_of table → CanReserve key_of table (key_of r) → number_of r ≡ table.next
      → IsReservationTable key_of number_of (table_with table r)
  IsReservationTable-with table r is can numbered = record {
    few = simp length-append (let h = can.room in omega arith);
    once = all_pairs_push (λ h later. has_key key_of (key_of h) later ≡ false) table.held r is.once (λ k d l. other_key (key_of r) table.held k d l can.free);
    rising = all_pairs_push (λ h later. number_of h < number_of later) table.held r is.rising (λ k d l. let h = is.below k d l in omega (arith, numbered));
    below = All-push (λ h. number_of h < table.next + 1) table.held r (λ k d l. let h = is.below k d l in omega arith) (omega (arith, numbered));
  }

  pub IsReservationTable-without : (table : Table R) (key : Bytes) → IsReservationTable key_of number_of table → IsReservationTable key_of number_of (table_without key_of table key)
  IsReservationTable-without table key is =
      let others = λ (h : R). not (has_key key_of key h) in
      record {
        few = let f = is.few in omega (arith, length-filter others table.held, count_by-le-length others table.held);
        once = AllPairs-filter (λ h later. has_key key_of (key_of h) later ≡ false) others table.held is.once;
        rising = AllPairs-filter (λ h later. number_of h < number_of later) others table.held is.rising;
        below = All-filter others (λ h. number_of h < table.next) table.held is.below;
      }

  -- the table without the reservation at a key's place
  pub without_place : (table : Table R) (key : Bytes) (i : ℕ) → IsReservationTable key_of number_of table → position (has_key key_of key) table.held ≡ Some i
      → remove table.held i ≡ (table_without key_of table key).held
  without_place table key i is at =
      remove_at_place (has_key key_of key) table.held i at
      (λ j k d lt within here. ap (λ q. has_key key_of q (get_or table.held k d)) (same_text key (key_of (get_or table.held j d)) (sym here)) ∙ is.once j k d lt within)

  -- a key with no place is free
  pub without_nowhere : (table : Table R) (key : Bytes) → position (has_key key_of key) table.held ≡ None → table ≡ table_without key_of table key
  without_nowhere table key none = λ i. record { held = sym (filter_nowhere (has_key key_of key) table.held none) i; next = table.next }

  -- the place of a key among the keys is that of its reservation
  pub place_of_key : (keys : List Bytes) (held : List R) (key : Bytes) → keys ≡ map key_of held → position (pointwise ◌==◌ key) keys ≡ position (has_key key_of key) held
  place_of_key keys held key are = ap (position (pointwise ◌==◌ key)) are ∙ position_map (pointwise ◌==◌ key) key_of held
