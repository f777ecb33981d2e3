use Rattle.jc_world.proofs.LastOpenings.{last_run}
use Rattle.jc_world.proofs.openings.has_last_opening.Goals as goal

pub returns : goal.returns
returns c = λ first events seen new (opens, run). last_run (record { stays = c.stays_reached.ensures; kept = c.keeps_reserved.ensures }) first new events seen opens run
