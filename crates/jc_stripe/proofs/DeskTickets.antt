-- A ticket by its number: its reservation is out, and without it the others are left in their order.
--     has_number     a reservation has this number
--     out_at         it is out
--     left_at        without it those of the other keys are left
use Rattle.std.proofs.Common.{◌≡◌, ◌==◌, ◌<◌, ℕ, zero, suc, List, [], ◌∷◌, length, map, Bool, true, false, None, Some, position, remove, get_or, slice_index_or, sym, ap, ◌∙◌, arith}
use Rattle.std.proofs.lemmas.Cmp.{nat_list_eq_equiv}
use Rattle.std.proofs.lemmas.Grind.{common_steps}
use Rattle.std.proofs.lemmas.List.{get_or-map, length-map}
use Rattle.std.specs.Cmp.Lexicographic.{same_text}
use Rattle.std.specs.List.{AllPairs}
use Rattle.jc_types.proofs.CallerLemmas.{find_at_place, find_nowhere, remove_at_place, position_map, map-remove}
use Rattle.jc_stripe.specs.declared.ticket.Reservation.{Reservation}
use Rattle.jc_stripe.specs.State.{State, is_key, without_key, IsOut}
use Rattle.jc_stripe.specs.Reached.{IsReached}
use Rattle.jc_stripe.specs.DeskPhases.{ticket_of}

abbrev pub has_number : ℕ → Reservation → Bool
has_number number r = r.number == number

abbrev pub AreOnce : List Reservation → Type 0
AreOnce rs = AllPairs (λ r later. is_key r.key later ≡ false) rs

-- so a later key isn't an earlier one
other_key : (x y : Reservation) → is_key x.key y ≡ false → is_key y.key x ≡ false
other_key x y h = nat_list_eq_equiv.symm y.key x.key ∙ h

own_key : (x : Reservation) → is_key x.key x ≡ true
own_key x = nat_list_eq_equiv.refl x.key

not_none : (i : ℕ) → i < 0 → ⊥
not_none i h = let no : 0 ≡ suc i = omega (arith, h) in cc

pub key_place : (rs : List Reservation) (i : ℕ) (x : Reservation) → AreOnce rs → i < length rs → x ≡ get_or rs i x → position (is_key x.key) rs ≡ Some i
key_place [] i x once within is = absurd (not_none i within)
key_place (r ∷ rs) zero x once within is =
    let here : is_key x.key r ≡ true = ap (is_key x.key) (sym is) ∙ own_key x in grind (arith, common_steps)
key_place (r ∷ rs) (suc i) x once within is =
    let differs : is_key r.key x ≡ false = ap (is_key r.key) is ∙ once 0 (suc i) x (omega arith) within in
    let here : is_key x.key r ≡ false = other_key r x differs in
    let rest : position (is_key x.key) rs ≡ Some i = key_place rs i x (λ j k d lt l. once (suc j) (suc k) d (omega arith) (omega arith)) (omega arith) is in
    grind (arith, common_steps)

pub out_at : (state : State) (i : ℕ) (x : Reservation) → IsReached state → i < length state.reservations → x ≡ get_or state.reservations i x → IsOut state x
out_at state i x reached within is =
    find_at_place (is_key x.key) state.reservations i x (key_place state.reservations i x reached.numbered.once within is) is

pub left_at : (rs : List Reservation) (i : ℕ) (x : Reservation) → AreOnce rs → i < length rs → x ≡ get_or rs i x → remove rs i ≡ without_key x.key rs
left_at rs i x once within is =
    remove_at_place (is_key x.key) rs i (key_place rs i x once within is)
    (λ j k d lt l here. ap (λ q. is_key q (get_or rs k d)) (same_text x.key (get_or rs j d).key (sym here)) ∙ once j k d lt l)

pub ticket_at : (state : State) (number i : ℕ) (x : Reservation) → position (has_number number) state.reservations ≡ Some i → x ≡ get_or state.reservations i x → ticket_of state number ≡ Some x
ticket_at state number i x at is = find_at_place (has_number number) state.reservations i x at is

pub place_within : (rs : List Reservation) (number i : ℕ) → position (has_number number) rs ≡ Some i → i < length rs
place_within rs number i at = grind (arith, common_steps)

-- what a number means that is nowhere among the tickets, or at a place of theirs
module _ {B : Type 0} (val : B → Reservation) (state : State) (items : List B) (number : ℕ) (are : map val items ≡ state.reservations) where
  pub ticket_nowhere : position (λ x. (val x).number == number) items ≡ None → ticket_of state number ≡ None
  ticket_nowhere at = find_nowhere (has_number number) state.reservations (ap (position (has_number number)) (sym are) ∙ position_map (has_number number) val items ∙ at)

  pub ticket_placed : (i : ℕ) (b : B) → position (λ x. (val x).number == number) items ≡ Some i → b ≡ slice_index_or items i b → ticket_of state number ≡ Some (val b)
  ticket_placed i b at is =
      let pos : position (has_number number) state.reservations ≡ Some i = ap (position (has_number number)) (sym are) ∙ position_map (has_number number) val items ∙ at in
      let within : i < length state.reservations = place_within state.reservations number i pos in
      let long : length items ≡ length state.reservations = sym (length-map items val) ∙ ap length are in
      ticket_at state number i (val b) pos
      (ap val is ∙ sym (get_or-map val items i b (val b) (omega (arith, long, within))) ∙ ap (λ xs. get_or xs i (val b)) are)

-- what is taken at the place of a number
pub record Taken (state : State) (number place : ℕ) (x : Reservation) (rest : List Reservation) : Type 0 where
  pub within : place < length state.reservations
  pub here : x ≡ get_or state.reservations place x
  pub out : IsOut state x
  pub ticket : ticket_of state number ≡ Some x
  pub left : rest ≡ without_key x.key state.reservations

pub taken : {B : Type 0} (val : B → Reservation) (state : State) (items rest : List B) (number i : ℕ) (b : B) → IsReached state → map val items ≡ state.reservations
    → position (λ x. (val x).number == number) items ≡ Some i → b ≡ slice_index_or items i b → rest ≡ remove items i → Taken state number i (val b) (map val rest)
taken val state items rest number i b reached are at is left =
    let pos : position (has_number number) state.reservations ≡ Some i = ap (position (has_number number)) (sym are) ∙ position_map (has_number number) val items ∙ at in
    let within : i < length state.reservations = place_within state.reservations number i pos in
    let long : length items ≡ length state.reservations = sym (length-map items val) ∙ ap length are in
    let here : val b ≡ get_or state.reservations i (val b) =
    ap val is ∙ sym (get_or-map val items i b (val b) (omega (arith, long, within))) ∙ ap (λ xs. get_or xs i (val b)) are in
    record {
      within = within;
      here = here;
      out = out_at state i (val b) reached within here;
      ticket = ticket_at state number i (val b) pos here;
      left = ap (map val) left ∙ map-remove val items i ∙ ap (λ xs. remove xs i) are ∙ left_at state.reservations i (val b) reached.numbered.once within here;
    }
