use Rattle.jc_script.proofs.ReachedWorlds.{piece_stays}
use Rattle.jc_script.proofs.reached.lines_stay_reached.Goals as goal

pub returns : goal.returns
returns c = piece_stays c.starts_open.ensures
