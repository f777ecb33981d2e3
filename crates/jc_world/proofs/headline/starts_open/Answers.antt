use Rattle.jc_world.proofs.Opened.{starts_open}
use Rattle.jc_world.proofs.headline.starts_open.Goals as goal

pub returns : goal.returns
returns c = starts_open
