use Rattle.jc_world.proofs.Common.{sym, subst, IsSoundWorld}
use Rattle.jc_world.proofs.Opened.{sound_start}
use Rattle.jc_world.proofs.world.World.new.Goals as goal

pub invariant_of-result : goal.invariant_of-result
invariant_of-result c = subst IsSoundWorld (sym c.in-Ok.ensures) (sound_start c.args.config.now (sym c.in_ok-check.ensures))
