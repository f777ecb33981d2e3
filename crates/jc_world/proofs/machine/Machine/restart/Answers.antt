use Rattle.jc_world.proofs.Common.{sym, subst, world_of, IsSoundWorld}
use Rattle.jc_world.proofs.Closing.{all_left, held_out, joins_out}
use Rattle.jc_world.proofs.machine.Machine.restart.Goals as goal

pub restart-requires : goal.restart-requires
restart-requires c =
    let w = world_of c.self.inside in
    let sound = subst IsSoundWorld (sym c.self.view_is) c.requires in
    record { left = all_left w sound; held = held_out w sound; joins = joins_out w sound }
