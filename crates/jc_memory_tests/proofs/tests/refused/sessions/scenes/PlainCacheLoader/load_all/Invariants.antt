use Rattle.std.proofs.Common.{◌≡◌}
use Rattle.jc_memory_tests.proofs.tests.refused.sessions.scenes.PlainCacheLoader.load_all.Given as goal

abbrev pub invariant-loop-key : goal.invariant-loop-key
invariant-loop-key l = l.answers.room ≡ l.fn.answers.room
