use Rattle.jc_world.proofs.Opened.{sound_opening}
use Rattle.jc_world.proofs.PickUps.{answers_joins}
use Rattle.jc_world.proofs.Sounding.{Laws, sound_run}
use Rattle.jc_world.proofs.pick_ups.answers_joins.Goals as goal

pub returns : goal.returns
returns c = λ opening before between seen_before seen_between old joined new newer call key s (opens, run) start run_between none step.
    let laws : Laws = record { stays = c.stays_reached.ensures; kept = c.keeps_reserved.ensures } in
    let sound_old = sound_run laws opening old before seen_before run (sound_opening opening opens) in
    answers_joins laws old joined new newer call key between seen_between s start sound_old run_between none step
