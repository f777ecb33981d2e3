use Rattle.jc_world.proofs.Kept.{coherent_alone}
use Rattle.jc_world.proofs.headline.stays_coherent_alone.Goals as goal

pub returns : goal.returns
returns c = λ first events seen new last reaches none coherent ours honest hold.
    coherent_alone new (c.stays_unwritten.ensures first events seen new last reaches none coherent ours honest) (c.stays_coherent.ensures first events seen new reaches hold)
