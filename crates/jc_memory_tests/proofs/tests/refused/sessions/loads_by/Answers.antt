use Rattle.std.proofs.Common.{sym}
use Rattle.jc_cache.specs.Sessions.{MayCall}
use Rattle.jc_memory_tests.proofs.Sessions.{all_of, at_cache}
use Rattle.jc_memory_tests.proofs.tests.refused.sessions.loads_by.Goals as goal

pub loads-ended-requires-after_bounds : goal.loads-ended-requires-after_bounds
loads-ended-requires-after_bounds g c κs within = at_cache _ (λ k s. MayCall k s) _ _ c.cache.ensures c.entered-sessions.ensures

pub close-requires : goal.close-requires
close-requires g c = all_of _ _ (at_cache _ (λ k s. MayCall k s) _ _ (sym c.cache.ensures) c.loads-ended.ensures)
