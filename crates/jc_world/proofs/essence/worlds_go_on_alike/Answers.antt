use Rattle.jc_world.proofs.AlikeWorlds.{run-alike}
use Rattle.jc_world.proofs.essence.worlds_go_on_alike.Goals as goal

pub returns : goal.returns
returns c = run-alike
