use Rattle.jc_world.proofs.DeterminedWorlds.{run-determined}
use Rattle.jc_world.proofs.determinism.runs_are_determined.Goals as goal

pub returns : goal.returns
returns c = run-determined
