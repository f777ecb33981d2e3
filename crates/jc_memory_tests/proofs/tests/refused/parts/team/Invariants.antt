use Rattle.std.proofs.Common.{◌-◌, ◌<◌, ◌≤◌, All, vec_len, vec_capacity}
use Rattle.jc_pool.specs.Shares.{CanDoAll}
use Rattle.jc_memory_tests.proofs.tests.refused.parts.team.Given as goal

abbrev pub invariant-making : goal.invariant-making
invariant-making g l = (vec_len l.team ≤ l.workers) × All (CanDoAll (λ t piece. (vec_len t.done ≤ piece) × (piece < vec_capacity t.done)) l.pieces) l.team.items

abbrev pub decreases-making : goal.decreases-making
decreases-making g l = l.workers - vec_len l.team
