use Rattle.jc_world.proofs.Common.{with_all_premises}
use Rattle.jc_world.proofs.Kept.{coherent}
use Rattle.jc_world.proofs.Opened.{sound_opening}
use Rattle.jc_world.proofs.AllPremises.{sound_premised}
use Rattle.jc_world.proofs.Sounding.{Laws, sound_run}
use Rattle.jc_world.proofs.headline.stays_coherent_from.Goals as goal

pub returns : goal.returns
returns c = λ opening before events seen_before seen from new foreign (opens, run_before) free agrees run hold.
    let laws : Laws = record { stays = c.stays_reached.ensures; kept = c.keeps_reserved.ensures } in
    let old = sound_run laws opening from before seen_before run_before (sound_opening opening opens) in
    coherent new (sound_run laws (with_all_premises foreign from) new events seen run (sound_premised foreign from free agrees old)) hold
