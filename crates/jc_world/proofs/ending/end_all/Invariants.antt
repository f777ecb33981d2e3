use Rattle.jc_world.proofs.Common.{index_map_len, AreLeft, HasHeld, HasJoins, parts_of, joins_of}
use Rattle.jc_world.proofs.ending.end_all.Given as goal

-- what is still out is held
abbrev pub invariant-ending : goal.invariant-ending
invariant-ending l = record {
  left : AreLeft l.config l.stripes.items;
  held : HasHeld l.config l.stripes.items (parts_of l.held);
  joins : HasJoins l.config l.stripes.items (joins_of l.joins);
}

-- one key less each time
abbrev pub decreases-ending : goal.decreases-ending
decreases-ending l = index_map_len l.held
