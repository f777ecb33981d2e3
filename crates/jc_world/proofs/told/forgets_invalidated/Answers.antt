use Rattle.jc_world.proofs.Cleared.{forgets_dropped}
use Rattle.jc_world.proofs.told.forgets_invalidated.Goals as goal

pub returns : goal.returns
returns c = forgets_dropped
