use Rattle.std.proofs.Common.{sym, ◌∙◌, ap, subst, position, remove, map, is_some}
use Rattle.jc_reserve.specs.Table.{Table}
use Rattle.jc_reserve.specs.Reserving.{has_key, table_without}
use Rattle.jc_reserve.specs.Inside.{table_of}
use Rattle.jc_reserve.specs.IsReservationTable.{IsReservationTable}
use Rattle.jc_types.proofs.CallerLemmas.{map-remove, is_some_position}
use Rattle.jc_reserve.proofs.ReservationTable.{IsReservationTable-without, without_place, without_nowhere}
use Rattle.jc_reserve.proofs.reservations.Reservations.release.Goals as goal

pub returns-in_default-clause-found : goal.returns-in_default-clause-found
returns-in_default-clause-found g c =
    sym (ap is_some (sym c.place_of.ensures.place ∙ c.in_default.is)) ∙ is_some_position (has_key g.R.Reserved.key c.args.key.now) c.args.self.now.held

pub returns-in_default-clause-released : goal.returns-in_default-clause-released
returns-in_default-clause-released g c =
    without_nowhere g.R.Reserved.key g.R.Reserved.number c.args.self.now c.args.key.now (sym c.place_of.ensures.place ∙ c.in_default.is)

pub returns-clause-found : goal.returns-clause-found
returns-clause-found g c =
    sym (ap is_some (sym c.place_of.ensures.place ∙ c.in-Some.is)) ∙ is_some_position (has_key g.R.Reserved.key c.args.key.now) c.args.self.now.held

pub returns-clause-released : goal.returns-clause-released
returns-clause-released g c =
    let key = c.args.key.now in
    let key_of = g.R.Reserved.key in
    let at = ap (λ (t : Table g.row.R.Denot). position (has_key key_of key) t.held) c.self.view_is ∙ sym c.place_of.ensures.place ∙ c.in-Some.is in
    let held = c.remove-2.ensures.items ∙ without_place key_of g.R.Reserved.number (table_of c.self.inside) key c.in-Some.place c.self.invariant.table at in
    (λ i. record { held = held i; next = c.self.inside.next }) ∙ ap (λ (t : Table g.row.R.Denot). table_without key_of t key) c.self.view_is

pub invariant_of-self : goal.invariant_of-self
invariant_of-self g c =
    let key = c.args.key.now in
    let key_of = g.R.Reserved.key in
    let number_of = g.R.Reserved.number in
    let at = ap (λ (t : Table g.row.R.Denot). position (has_key key_of key) t.held) c.self.view_is ∙ sym c.place_of.ensures.place ∙ c.in-Some.is in
    let held = c.remove-2.ensures.items ∙ without_place key_of number_of (table_of c.self.inside) key c.in-Some.place c.self.invariant.table at in
    record {
      keys = c.remove.ensures.items ∙ ap (λ xs. remove xs c.in-Some.place) c.self.invariant.keys
          ∙ sym (map-remove key_of c.self.inside.held.items c.in-Some.place) ∙ ap (map key_of) (sym c.remove-2.ensures.items);
      table = subst (IsReservationTable {R = g.row.R.Denot} key_of number_of) (λ i. record { held = sym held i; next = c.self.inside.next })
          (IsReservationTable-without key_of number_of (table_of c.self.inside) key c.self.invariant.table);
    }
