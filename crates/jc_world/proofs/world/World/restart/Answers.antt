use Rattle.jc_world.proofs.Common.{sym, subst, IsSoundWorld}
use Rattle.jc_world.proofs.Opened.{sound_start}
use Rattle.jc_world.proofs.world.World.restart.Goals as goal

pub invariant_of-self : goal.invariant_of-self
invariant_of-self c = subst IsSoundWorld (sym c.restart.ensures) (sound_start c.self.inside.machine.config c.self.invariant.shape.config_fits)
