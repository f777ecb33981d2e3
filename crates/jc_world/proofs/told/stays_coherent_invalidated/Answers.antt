use Rattle.jc_world.proofs.Cleared.{free_cleared}
use Rattle.jc_world.proofs.Invalidated.{told_invalidated}
use Rattle.jc_world.proofs.Opened.{sound_opening}
use Rattle.jc_world.proofs.Sounding.{Laws, sound_run, sound_step}
use Rattle.jc_world.proofs.Telling.{coherent_run}
use Rattle.jc_world.proofs.told.stays_coherent_invalidated.Goals as goal

pub returns : goal.returns
returns c = λ opening before events seen_before seen old forgotten new e key s (opens, run_before) drops fit step run none hold.
    let laws : Laws = record { stays = c.stays_reached.ensures; kept = c.keeps_reserved.ensures } in
    let sound = sound_run laws opening old before seen_before run_before (sound_opening opening opens) in
    let told = told_invalidated old forgotten e key s sound drops fit step in
    coherent_run laws forgotten new events seen key (sound_step laws old e s forgotten step sound) (free_cleared forgotten key told.0) told.1 run none hold
