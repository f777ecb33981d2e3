use Rattle.std.proofs.Common.{sym}
use Rattle.jc_memory_tests.proofs.Sessions.{may_at}
use Rattle.jc_memory_tests.proofs.tests.refused.sessions.puts_and_closes.Goals as goal

pub puts-requires : goal.puts-requires
puts-requires g c = may_at _ _ _ c.cache.ensures c.requires

pub closes_once-requires : goal.closes_once-requires
closes_once-requires g c = may_at _ _ _ (sym c.cache.ensures) c.puts.ensures
