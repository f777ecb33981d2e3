use Rattle.jc_world.proofs.Common.{subst, PlayedWorld}
use Rattle.jc_world.specs.Sound.{HaveNoneEnded}
use Rattle.jc_world.proofs.world.World.stripe_list.Goals as goal

pub returns-clause-ended : goal.returns-clause-ended
returns-clause-ended c =
    let P : PlayedWorld → Type 0 = λ p. HaveNoneEnded p.world.stripes in
    subst P c.self.view_is (λ number s here. (c.self.invariant.shape.each number s here).ended_is)
