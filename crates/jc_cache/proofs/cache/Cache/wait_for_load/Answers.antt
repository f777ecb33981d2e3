use Rattle.jc_cache.proofs.Common.{◌∙◌, ap, stripe_of, Bytes}
use Rattle.jc_cache.proofs.SessionPhases.{picked_late, phase_map}
use Rattle.jc_cache.proofs.cache.Cache.wait_for_load.Goals as goal

pub returns : goal.returns
returns g c =
    phase_map c.args.self.now _ c.stripe_of-at.result c.args.session.now _ _ _ _
    (c.stripe_of-at.ensures.at ∙ ap (λ (k : Bytes). stripe_of k c.args.self.now.config.stripes) c.key.ensures)
    (λ a b w. w) (λ a b m. picked_late a b c.args.join c.phase_at.result c.phase_at.new.reply m) c.phase_at.ensures
