use Rattle.std.proofs.Common.{sym}
use Rattle.jc_cache.specs.Sessions.{MayCall}
use Rattle.jc_memory_tests.proofs.Sessions.{all_of, may_at, the_only}
use Rattle.jc_memory_tests.proofs.tests.refused.sessions.puts_and_opens_again.Goals as goal

pub puts-requires : goal.puts-requires
puts-requires g c = may_at _ _ _ c.cache.ensures c.requires

pub close-requires : goal.close-requires
close-requires g c = all_of _ _ (the_only _ _ (λ s. MayCall c.args.owner.cache s) c.only-sessions.ensures (may_at _ _ _ (sym c.cache.ensures) c.puts.ensures))
