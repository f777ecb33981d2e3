use Rattle.jc_world.proofs.Common.{subst, IsOrder, HasShares, PlayedWorld}
use Rattle.jc_world.proofs.Callers.{order_is, has_shares}
use Rattle.jc_world.proofs.world.World.order.Goals as goal

pub returns-clause-legal : goal.returns-clause-legal
returns-clause-legal c =
    let P : PlayedWorld → Type 0 = λ p. IsOrder p.world in
    subst P c.self.view_is (order_is c.self.inside.machine c.self.invariant)

pub returns-clause-parts : goal.returns-clause-parts
returns-clause-parts c =
    let P : PlayedWorld → Type 0 = λ p. HasShares p.world in
    subst P c.self.view_is (has_shares c.self.inside.machine c.self.invariant)
