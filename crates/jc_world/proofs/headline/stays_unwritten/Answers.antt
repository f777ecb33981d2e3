use Rattle.jc_world.proofs.Unwritten.{unwritten_since}
use Rattle.jc_world.proofs.headline.stays_unwritten.Goals as goal

pub returns : goal.returns
returns c = λ first events seen new last reaches none coherent ours honest. unwritten_since first new events seen last none coherent ours honest
