use Rattle.jc_world.proofs.Cleared.{told_cleared}
use Rattle.jc_world.proofs.Opened.{sound_opening}
use Rattle.jc_world.proofs.Sounding.{sound_run}
use Rattle.jc_world.proofs.told.tells_cleared.Goals as goal

pub returns : goal.returns
returns c = λ opening events seen old new call key x over (opens, run) clear step.
    told_cleared old new call key x over (sound_run (record { stays = c.stays_reached.ensures; kept = c.keeps_reserved.ensures }) opening old events seen run (sound_opening opening opens)) clear step
