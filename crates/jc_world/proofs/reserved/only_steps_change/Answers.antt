use Rattle.jc_world.proofs.ReservedEntries.{unmoved_step}
use Rattle.jc_world.proofs.reserved.only_steps_change.Goals as goal

pub returns : goal.returns
returns c = λ opening events seen old new e s reached step none. unmoved_step old new e s step none
