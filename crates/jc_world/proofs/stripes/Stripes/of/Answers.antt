use Rattle.jc_world.proofs.Merging.{starts_mergeable}
use Rattle.jc_world.proofs.stripes.Stripes.of.Goals as goal

pub invariant_of-result : goal.invariant_of-result
invariant_of-result c = starts_mergeable _ c.requires.count c.requires.empty c.new.ensures.items
