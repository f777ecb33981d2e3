use Rattle.std.proofs.Common.{sym, ◌∙◌, ap, get_or, position, option_map, Bor}
use Rattle.jc_types.proofs.CallerLemmas.{find_at_place, find_nowhere}
use Rattle.jc_reserve.specs.Table.{Table}
use Rattle.jc_reserve.specs.Reserving.{has_key, reservation_at}
use Rattle.jc_reserve.proofs.reservations.Reservations.find.Goals as goal

pub returns-in_err-place-clause-found : goal.returns-in_err-place-clause-found
returns-in_err-place-clause-found g c =
    ap (option_map (λ (r : Bor g.row.R.Denot). r.now)) c.from_residual.ensures
    ∙ sym (find_nowhere (has_key g.R.Reserved.key c.args.key.now) c.args.self.now.held (sym c.place_of.ensures.place ∙ c.in_err-place.was))

pub returns-clause-found : goal.returns-clause-found
returns-clause-found g c =
    let key_of = g.R.Reserved.key in
    let at = ap (λ (t : Table g.row.R.Denot). position (has_key key_of c.args.key.now) t.held) c.self.view_is ∙ sym c.place_of.ensures.place ∙ c.in_ok-place.was in
    let is = c.index-deref-place.is ∙ ap (λ xs. get_or xs c.in_ok-place.place c.index-deref-place.result) c.deref.ensures.0 in
    sym (find_at_place (has_key key_of c.args.key.now) c.self.inside.held.items c.in_ok-place.place c.index-deref-place.result at is)
    ∙ ap (λ (t : Table g.row.R.Denot). reservation_at key_of t c.args.key.now) c.self.view_is
