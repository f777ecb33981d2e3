use Rattle.jc_world.proofs.ShownOnce.{shown_once}
use Rattle.jc_world.proofs.replies.steps_are_shown_once.Goals as goal

pub returns : goal.returns
returns c = λ opening events seen new ((opens, run), none) number place caller op key out shared reply there.
    shown_once (record { stays = c.stays_reached.ensures; kept = c.keeps_reserved.ensures }) c.grows.ensures opening new events seen number place caller op key out shared reply opens run none there
