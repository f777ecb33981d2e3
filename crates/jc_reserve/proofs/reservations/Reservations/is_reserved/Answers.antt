use Rattle.std.proofs.Common.{ap, ◌∙◌, is_some}
use Rattle.jc_reserve.specs.Reserving.{has_key}
use Rattle.jc_types.proofs.CallerLemmas.{is_some_position}
use Rattle.jc_reserve.proofs.reservations.Reservations.is_reserved.Goals as goal

pub returns : goal.returns
returns g c = c.is_some.ensures ∙ ap is_some c.place_of.ensures.place ∙ is_some_position (has_key g.R.Reserved.key c.args.key.now) c.args.self.now.held
