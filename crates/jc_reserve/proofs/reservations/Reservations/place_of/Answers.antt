use Rattle.std.proofs.Common.{◌==◌, ap, ◌∙◌, position}
use Rattle.std.specs.Cmp.Lexicographic.{pointwise}
use Rattle.jc_reserve.specs.Table.{Table}
use Rattle.jc_reserve.specs.Reserving.{has_key}
use Rattle.jc_reserve.proofs.ReservationTable.{place_of_key}
use Rattle.jc_reserve.proofs.reservations.Reservations.place_of.Goals as goal

pub returns-clause-place : goal.returns-clause-place
returns-clause-place g c =
    c.place_among.ensures ∙ ap (position (pointwise ◌==◌ c.args.key.now)) c.deref.ensures.0
    ∙ place_of_key g.R.Reserved.key g.R.Reserved.number c.self.inside.keys.items c.self.inside.held.items c.args.key.now c.self.invariant.keys
    ∙ ap (λ (t : Table g.row.R.Denot). position (has_key g.R.Reserved.key c.args.key.now) t.held) c.self.view_is
