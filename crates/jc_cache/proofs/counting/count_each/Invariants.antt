use Rattle.jc_cache.proofs.Common.{◌≡◌, take, statistics_of, occurred_in}
use Rattle.jc_cache.proofs.counting.count_each.Given as goal

abbrev pub invariant-loop-i : goal.invariant-loop-i
invariant-loop-i l = l.total ≡ statistics_of (occurred_in (take l.i l.stripes))
