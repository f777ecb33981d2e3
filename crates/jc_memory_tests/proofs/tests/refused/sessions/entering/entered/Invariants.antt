use Rattle.std.specs.List.{All}
use Rattle.jc_cache.specs.Sessions.{MayCall}
use Rattle.jc_memory_tests.proofs.tests.refused.sessions.entering.entered.Given as goal

abbrev pub invariant-loop-one : goal.invariant-loop-one
invariant-loop-one g l =
    (goal.iterator-loop-one g).can_next l.one-iterator ×
    (goal.iterator-loop-one g).is_finite l.one-iterator ×
    All (λ s. MayCall l.owner.cache s) l.sessions.items
