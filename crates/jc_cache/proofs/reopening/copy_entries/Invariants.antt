use Rattle.jc_cache.proofs.Common.{◌≡◌, ◌++◌, drop}
use Rattle.jc_cache.specs.Reopening.{all_left}
use Rattle.jc_cache.proofs.reopening.copy_entries.Given as goal

abbrev pub invariant-loop-stripe : goal.invariant-loop-stripe
invariant-loop-stripe l = l.entries.items ++ all_left (drop l.stripe-index l.stripes) ≡ all_left l.stripes
