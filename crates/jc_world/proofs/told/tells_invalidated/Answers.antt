use Rattle.jc_world.proofs.Invalidated.{told_invalidated}
use Rattle.jc_world.proofs.Opened.{sound_opening}
use Rattle.jc_world.proofs.Sounding.{sound_run}
use Rattle.jc_world.proofs.told.tells_invalidated.Goals as goal

pub returns : goal.returns
returns c = λ opening events seen old new e key s (opens, run) drops fit step.
    told_invalidated old new e key s (sound_run (record { stays = c.stays_reached.ensures; kept = c.keeps_reserved.ensures }) opening old events seen run (sound_opening opening opens)) drops fit step
