use Rattle.jc_cache.specs.Sessions.{IsOf, MayCall}
use Rattle.jc_memory_tests.proofs.Sessions.{all_of, handed_back, the_only}
use Rattle.jc_memory_tests.proofs.tests.refused.sessions.closes_once.Goals as goal

pub close-requires : goal.close-requires
close-requires g c = all_of _ _ (the_only _ _ (λ s. MayCall c.args.owner.cache s) c.only-sessions.ensures c.requires)

pub closes_again-requires : goal.closes_again-requires
closes_again-requires g c =
    handed_back _ _ (λ k s. IsOf k s) _ _ c.in-Err.ensures.err.back.0.cache c.in-Err.ensures.err.back.1
    (all_of _ _ (the_only _ _ (λ s. MayCall c.args.owner.cache s) c.only-sessions.ensures c.requires))
