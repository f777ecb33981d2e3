use Rattle.jc_world.proofs.Essences.{essences-tell}
use Rattle.jc_world.proofs.essence.essences_tell.Goals as goal

pub returns : goal.returns
returns c = essences-tell
