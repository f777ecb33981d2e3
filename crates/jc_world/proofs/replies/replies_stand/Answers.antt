use Rattle.jc_world.proofs.Standing.{stands_opened}
use Rattle.jc_world.proofs.replies.replies_stand.Goals as goal

pub returns : goal.returns
returns c = λ opening events seen new ((opens, run), none).
    stands_opened (record { stays = c.stays_reached.ensures; kept = c.keeps_reserved.ensures }) opening new events seen opens run none
