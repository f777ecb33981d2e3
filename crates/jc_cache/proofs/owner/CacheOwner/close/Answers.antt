use Rattle.jc_cache.proofs.Common.{refl, rules}
use Rattle.jc_cache.proofs.ClosedCache.{as_it_was}
use Rattle.jc_cache.proofs.owner.CacheOwner.close.Goals as goal

pub returns-clause-err : goal.returns-clause-err
returns-clause-err g c = record { why = search rules; back = (as_it_was _, refl) }
