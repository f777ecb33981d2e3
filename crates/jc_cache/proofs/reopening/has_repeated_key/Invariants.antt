use Rattle.jc_cache.proofs.Common.{◌≡◌, ◌||◌, drop, take, All, IsReached}
use Rattle.jc_cache.proofs.Reopenings.{some_share_left}
use Rattle.jc_cache.proofs.reopening.has_repeated_key.Given as goal

abbrev pub invariant-loop-i : goal.invariant-loop-i
invariant-loop-i l = record {
  found : (l.found || some_share_left (drop l.i l.stripes)) ≡ some_share_left l.stripes;
  reached : All IsReached (take l.i l.stripes);
}
