use Rattle.jc_world.proofs.Opened.{sound_opening}
use Rattle.jc_world.proofs.Reopened.{is_reopened}
use Rattle.jc_world.proofs.Sounding.{sound_run}
use Rattle.jc_world.proofs.openings.reopens_open.Goals as goal

pub returns : goal.returns
returns c = λ first events seen old new config s (opens, run) fit step.
    is_reopened old config s new (sound_run (record { stays = c.stays_reached.ensures; kept = c.keeps_reserved.ensures }) first old events seen run (sound_opening first opens)) fit step
