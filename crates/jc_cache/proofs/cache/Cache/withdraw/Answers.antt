use Rattle.jc_cache.proofs.Common.{◌∙◌, ap, stripe_of, Reservation}
use Rattle.jc_cache.proofs.SessionPhases.{phase_map}
use Rattle.jc_cache.proofs.cache.Cache.withdraw.Goals as goal

pub returns : goal.returns
returns g c =
    phase_map c.args.self.now _ c.stripe_of-at.result c.args.session.now _ _ _ _
    (c.stripe_of-at.ensures.at ∙ ap (λ (r : Reservation). stripe_of r.key c.args.self.now.config.stripes) c.reservation.ensures)
    (λ a b w. w) (λ a b m. m) c.phase_at.ensures
