use Rattle.jc_world.proofs.Loaded.{told_loaded}
use Rattle.jc_world.proofs.Opened.{sound_opening}
use Rattle.jc_world.proofs.Sounding.{sound_run}
use Rattle.jc_world.proofs.told.tells_loaded.Goals as goal

pub returns : goal.returns
returns c = λ opening events seen old new call key value part replace x over (opens, run) is op_is out_is stored step.
    told_loaded old new call key value part replace x over (sound_run (record { stays = c.stays_reached.ensures; kept = c.keeps_reserved.ensures }) opening old events seen run (sound_opening opening opens)) is op_is out_is stored step
