use Rattle.jc_world.proofs.Common.{Outcome, WorldEvent}
use Rattle.jc_world.proofs.Loaded.{told_loaded}
use Rattle.jc_world.proofs.Opened.{sound_opening}
use Rattle.jc_world.proofs.Sounding.{Laws, sound_run, sound_step}
use Rattle.jc_world.proofs.Telling.{coherent_run}
use Rattle.jc_world.proofs.told.stays_coherent_loaded.Goals as goal

pub returns : goal.returns
returns c = λ opening before events seen_before seen old loaded new call key value part replace x over (opens, run_before) is op_is out_is stored step run none hold.
    let laws : Laws = record { stays = c.stays_reached.ensures; kept = c.keeps_reserved.ensures } in
    let sound = sound_run laws opening old before seen_before run_before (sound_opening opening opens) in
    let sound_loaded = sound_step laws old (WorldEvent.Commit call key) (record { outcome = Outcome.Stepped x; over = over }) loaded step sound in
    let told = told_loaded old loaded call key value part replace x over sound is op_is out_is stored step in
    coherent_run laws loaded new events seen key sound_loaded told.1 told.0 run none hold
