use Rattle.jc_stripe.proofs.KeepsOrDrops.{keeps_or_drops}
use Rattle.jc_stripe.proofs.reopening.keeps_or_drops.Goals as goal

pub returns : goal.returns
returns c = keeps_or_drops
