use Rattle.jc_world.proofs.Opened.{sound_opening}
use Rattle.jc_world.proofs.Sounding.{Laws, sound_run}
use Rattle.jc_world.proofs.Telling.{coherent_run}
use Rattle.jc_world.proofs.told.stays_coherent_told.Goals as goal

pub returns : goal.returns
returns c = λ opening before events seen_before seen old new key (opens, run_before) honest told run none hold.
    let laws : Laws = record { stays = c.stays_reached.ensures; kept = c.keeps_reserved.ensures } in
    coherent_run laws old new events seen key (sound_run laws opening old before seen_before run_before (sound_opening opening opens)) honest told run none hold
