use Rattle.jc_world.proofs.Common.{index_map_len, AreLeft, HasJoins, NoneReserved, joins_of}
use Rattle.jc_world.proofs.ending.pick_all.Given as goal

-- the joins that are left are still out in the stripes
abbrev pub invariant-picking : goal.invariant-picking
invariant-picking l = record {
  left : AreLeft l.config l.stripes.items;
  none : NoneReserved l.stripes.items;
  joins : HasJoins l.config l.stripes.items (joins_of l.joins);
}

-- one join less each time
abbrev pub decreases-picking : goal.decreases-picking
decreases-picking l = index_map_len l.joins
