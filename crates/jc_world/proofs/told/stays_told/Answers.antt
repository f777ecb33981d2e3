use Rattle.jc_world.proofs.Opened.{sound_opening}
use Rattle.jc_world.proofs.Sounding.{Laws, sound_run}
use Rattle.jc_world.proofs.Telling.{told_run}
use Rattle.jc_world.proofs.told.stays_told.Goals as goal

pub returns : goal.returns
returns c = λ opening before events seen_before seen old new key (opens, run_before) run none on honest told.
    let laws : Laws = record { stays = c.stays_reached.ensures; kept = c.keeps_reserved.ensures } in
    told_run laws old new events seen key run none on honest (sound_run laws opening old before seen_before run_before (sound_opening opening opens)) told
