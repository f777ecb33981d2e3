use Rattle.std.proofs.Common.{sym, ◌∙◌, ap, subst, ◌∷◌, ◌++◌, ◌+◌, [], map}
use Rattle.std.proofs.lemmas.List.{map-append}
use Rattle.jc_reserve.specs.Table.{Table}
use Rattle.jc_reserve.specs.Reserving.{CanReserve}
use Rattle.jc_reserve.specs.Inside.{table_of}
use Rattle.jc_reserve.specs.IsReservationTable.{IsReservationTable}
use Rattle.jc_reserve.proofs.ReservationTable.{IsReservationTable-with}
use Rattle.jc_reserve.proofs.reservations.Reservations.reserve.Goals as goal

pub invariant_of-self : goal.invariant_of-self
invariant_of-self g c =
    let key_of = g.R.Reserved.key in
    let number_of = g.R.Reserved.number in
    let r = c.args.reservation.now in
    let could = subst (λ k. CanReserve key_of c.args.self.now k) c.key.ensures (c.can_reserve.ensures.0 c.if-not-can_reserve.false) in
    let can = subst (λ (t : Table g.row.R.Denot). CanReserve key_of t (key_of r)) (sym c.self.view_is) could in
    record {
      keys = c.push-2.ensures.items ∙ ap (λ xs. xs ++ c.key.result.now ∷ []) c.self.invariant.keys ∙ ap (λ k. map key_of c.self.inside.held.items ++ k ∷ []) c.key.ensures
          ∙ sym (map-append key_of c.self.inside.held.items _) ∙ ap (map key_of) (sym c.push.ensures.items);
      table = subst (IsReservationTable {R = g.row.R.Denot} key_of number_of) (λ i. record { held = sym c.push.ensures.items i; next = c.self.inside.next + 1 })
          (IsReservationTable-with key_of number_of (table_of c.self.inside) r c.self.invariant.table can
          (c.requires ∙ sym (ap (λ (t : Table g.row.R.Denot). t.next) c.self.view_is)));
    }
