use Rattle.jc_world.proofs.Common.{subst, PlayedWorld, BeginFits}
use Rattle.jc_world.proofs.Opening.{begin_fits}
use Rattle.jc_world.proofs.world.World.lets_calls_begin.Goals as goal

pub returns : goal.returns
returns c =
    let P : PlayedWorld → Type 0 = λ p. BeginFits p.world in
    subst P c.self.view_is (begin_fits c.self.inside.machine c.self.invariant)
