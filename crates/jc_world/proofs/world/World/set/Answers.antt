use Rattle.jc_world.proofs.Common.{ap, ◌∙◌, PlayedWorld}
use Rattle.jc_world.proofs.Sounding.{sound_set}
use Rattle.jc_world.proofs.world.World.set.Goals as goal

pub invariant_of-self : goal.invariant_of-self
invariant_of-self c =
    sound_set c.store.result c.self.inside.machine c.store.new.self c.args.key.now c.args.value.now c.store.ensures.ok c.store.ensures.err
    (ap (λ (p : PlayedWorld). p.world.is_fresh) c.self.view_is ∙ c.requires) c.self.invariant
