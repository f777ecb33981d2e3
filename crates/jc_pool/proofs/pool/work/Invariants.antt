use Rattle.std.proofs.Common.{◌≡◌, ℕ, ◌-◌, ◌≤◌, ◌++◌}
use Rattle.std.specs.List.Sorted.{IsStrictlyIncreasing}
use Rattle.jc_pool.specs.Shares.{LeadsTo}
use Rattle.jc_pool.specs.Views.{least_above, IsClaimerOf}
use Rattle.jc_pool.proofs.pool.work.Given as goal

abbrev pub invariant-loop-piece : goal.invariant-loop-piece
invariant-loop-piece g l =
    IsClaimerOf l.counter l.claimer
    × (l.claimer.1.working ≡ 1)
    × (l.claimer.1.ended ≡ 0)
    × IsStrictlyIncreasing l.claimer.1.claimed
    × (g.W.WorkWith.did (l.worker, l.tool) ≡ g.W.WorkWith.did (l.initial.worker, l.initial.tool) ++ l.claimer.1.claimed)
    × (g.W.WorkWith.job (l.worker, l.tool) ≡ g.W.WorkWith.job (l.initial.worker, l.initial.tool))
    × LeadsTo g.W.WorkWith.does (l.initial.worker, l.initial.tool) l.claimer.1.claimed (l.worker, l.tool)
    × (least_above l.claimer.1.claimed ≤ l.counter.1.pieces)
    × ((piece : ℕ) → least_above l.claimer.1.claimed ≤ piece → g.W.WorkWith.can_do (l.initial.worker, l.initial.tool) piece → g.W.WorkWith.can_do (l.worker, l.tool) piece)

abbrev pub decreases-loop-piece : goal.decreases-loop-piece
decreases-loop-piece g l = l.counter.1.pieces - least_above l.claimer.1.claimed
