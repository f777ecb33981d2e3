use Rattle.jc_world.proofs.Common.{subst, PlayedWorld, FitTogether}
use Rattle.jc_world.proofs.Together.{fit_together}
use Rattle.jc_world.proofs.world.World.lets_keys_go_together.Goals as goal

pub returns : goal.returns
returns c =
    let P : PlayedWorld → Type 0 = λ p. FitTogether p.world in
    subst P c.self.view_is (fit_together (record { stays = c.stays_reached.ensures; kept = c.keeps_reserved.ensures }) c.self.inside.machine c.self.invariant)
