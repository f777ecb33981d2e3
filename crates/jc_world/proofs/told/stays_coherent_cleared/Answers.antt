use Rattle.jc_world.proofs.Common.{Outcome, WorldEvent}
use Rattle.jc_world.proofs.Cleared.{told_cleared, free_cleared}
use Rattle.jc_world.proofs.Opened.{sound_opening}
use Rattle.jc_world.proofs.Sounding.{Laws, sound_run, sound_step}
use Rattle.jc_world.proofs.Telling.{coherent_run}
use Rattle.jc_world.proofs.told.stays_coherent_cleared.Goals as goal

pub returns : goal.returns
returns c = λ opening before events seen_before seen old cleared new call key x over (opens, run_before) clear step run none hold.
    let laws : Laws = record { stays = c.stays_reached.ensures; kept = c.keeps_reserved.ensures } in
    let sound = sound_run laws opening old before seen_before run_before (sound_opening opening opens) in
    let sound_cleared = sound_step laws old (WorldEvent.Start call key) (record { outcome = Outcome.Stepped x; over = over }) cleared step sound in
    let told = told_cleared old cleared call key x over sound clear step in
    coherent_run laws cleared new events seen key sound_cleared (free_cleared cleared key told.0) told.1 run none hold
