use Rattle.std.proofs.Common.{◌≡◌, length}
use Rattle.jc_entries.specs.ByUse.{lru_victim}
use Rattle.jc_entries.proofs.entries.Entries.lru_victim.Given as goal

abbrev pub invariant-loop-key : goal.invariant-loop-key
invariant-loop-key l = lru_victim l.rest l.pinned ≡ lru_victim l.self.list l.pinned

abbrev pub decreases-loop-key : goal.decreases-loop-key
decreases-loop-key l = length l.rest
