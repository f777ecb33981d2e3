use Rattle.jc_world.proofs.Cleared.{forgets}
use Rattle.jc_world.proofs.told.forgets_cleared.Goals as goal

pub returns : goal.returns
returns c = forgets
