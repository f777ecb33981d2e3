use Rattle.jc_cache.specs.Sessions.{MayCall}
use Rattle.jc_memory_tests.proofs.Sessions.{all_of, first_one}
use Rattle.jc_memory_tests.proofs.tests.refused.sessions.scenes.end.Goals as goal

pub close-requires : goal.close-requires
close-requires g c = all_of _ _ (first_one _ _ _ (λ s. MayCall c.args.owner.cache s) c.new-sessions.ensures.items c.push.ensures c.requires)
