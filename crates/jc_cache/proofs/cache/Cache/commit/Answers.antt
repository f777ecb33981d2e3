use Rattle.jc_cache.proofs.Common.{◌∙◌, ap, stripe_of, Reservation}
use Rattle.jc_cache.proofs.SessionPhases.{commit_needs, phase_map}
use Rattle.jc_cache.proofs.cache.Cache.commit.Goals as goal

pub phase_at-requires-clause-needs : goal.phase_at-requires-clause-needs
phase_at-requires-clause-needs g c a found =
    commit_needs c.args.self.now c.args.session.now c.args.ticket (g.A.Answer.answered c.args.answer) c.stripe_of-at.result found.0 a c.requires.caller.own c.requires.answered c.requires.reported found.1 found.2

pub returns : goal.returns
returns g c =
    phase_map c.args.self.now _ c.stripe_of-at.result c.args.session.now _ _ _ _
    (c.stripe_of-at.ensures.at ∙ ap (λ (r : Reservation). stripe_of r.key c.args.self.now.config.stripes) c.reservation.ensures)
    (λ a b w. w) (λ a b m. m) c.phase_at.ensures
