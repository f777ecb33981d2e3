use Rattle.jc_world.proofs.Invalidated.{marked_invalidated}
use Rattle.jc_world.proofs.Opened.{sound_opening}
use Rattle.jc_world.proofs.Sounding.{sound_run}
use Rattle.jc_world.proofs.told.marks_reserved.Goals as goal

pub returns : goal.returns
returns c = λ opening events seen old new key part s (opens, run) there step.
    marked_invalidated old new key part s (sound_run (record { stays = c.stays_reached.ensures; kept = c.keeps_reserved.ensures }) opening old events seen run (sound_opening opening opens)) there step
