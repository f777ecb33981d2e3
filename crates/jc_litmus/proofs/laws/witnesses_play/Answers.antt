use Rattle.jc_litmus.proofs.WitnessLines.{witness_plays}
use Rattle.jc_litmus.proofs.laws.witnesses_play.Goals as goal

pub returns : goal.returns
returns c = witness_plays
