use Rattle.std.proofs.Common.{◌≤◌, ◌-◌, length}
use Rattle.std.specs.List.{All}
use Rattle.jcache.specs.Teams.{HasCounted}
use Rattle.jcache.proofs.threads.hire.Given as goal

abbrev pub invariant-loop-alloc : goal.invariant-loop-alloc
invariant-loop-alloc g l = record {
  ready : All (λ w. HasCounted l.owner.cache 0 w.session) l.team.items;
  few : length l.team.items ≤ l.wanted;
}

abbrev pub decreases-loop-alloc : goal.decreases-loop-alloc
decreases-loop-alloc g l = l.wanted - length l.team.items
