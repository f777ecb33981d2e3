use Rattle.jc_world.proofs.Common.{sym, subst, world_of, IsSoundWorld}
use Rattle.jc_world.proofs.Closing.{all_left, held_out, joins_out}
use Rattle.jc_world.proofs.machine.Machine.close.Goals as goal

pub end_all-requires : goal.end_all-requires
end_all-requires c =
    let w = world_of c.self.inside in
    let sound = subst IsSoundWorld (sym c.self.view_is) c.requires in
    rw c.into_items-items.ensures (record { left = all_left w sound; held = held_out w sound; joins = joins_out w sound })
