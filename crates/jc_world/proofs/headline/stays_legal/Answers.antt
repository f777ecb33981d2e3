use Rattle.jc_world.proofs.Callers.{order_is, has_shares}
use Rattle.jc_world.proofs.Opened.{sound_opening}
use Rattle.jc_world.proofs.Sounding.{sound_run}
use Rattle.jc_world.proofs.headline.stays_legal.Goals as goal

pub returns : goal.returns
returns c = λ opening events seen new (opens, run).
    let sound = sound_run (record { stays = c.stays_reached.ensures; kept = c.keeps_reserved.ensures }) opening new events seen run (sound_opening opening opens) in
    (order_is new sound, has_shares new sound)
