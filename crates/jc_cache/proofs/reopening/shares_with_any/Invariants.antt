use Rattle.jc_cache.proofs.Common.{◌≡◌, drop, list_any}
use Rattle.jc_cache.specs.Reopening.{shares_left}
use Rattle.jc_cache.proofs.reopening.shares_with_any.Given as goal

abbrev pub invariant-loop-other : goal.invariant-loop-other
invariant-loop-other l = list_any (shares_left l.stripe) (drop l.other-index l.others) ≡ list_any (shares_left l.stripe) l.others
