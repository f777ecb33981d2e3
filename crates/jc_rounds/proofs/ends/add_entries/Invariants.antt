use Rattle.jc_rounds.proofs.Common.{ops_of, ◌≡◌, ◌≤◌, ◌+◌, length, take}
use Rattle.indexmap.specs.IndexMap.{spare}
use Rattle.jc_rounds.specs.Ends.{entries_by, key_ends}
use Rattle.jc_rounds.proofs.ends.add_entries.Given as goal

-- the keys before this place were added
abbrev pub invariant-loop-place : goal.invariant-loop-place
invariant-loop-place g l = record {
  added : l.map.entries ≡ entries_by g.V.OfEnd.said (key_ends (take l.place (ops_of l.targets)) (take l.place l.progress));
  room : length (ops_of l.targets) ≤ spare l.map + l.place;
}
