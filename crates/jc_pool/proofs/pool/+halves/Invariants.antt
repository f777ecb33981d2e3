use Rattle.std.proofs.Common.{◌+◌, ◌-◌, ◌*◌, length}
use Rattle.jc_pool.proofs.pool.+halves.Given as goal

abbrev pub decreases-work_side_by_side : goal.decreases-work_side_by_side
decreases-work_side_by_side g l = 4 * length l.workers.now

abbrev pub decreases-work_in_halves : goal.decreases-work_in_halves
decreases-work_in_halves g l = 4 * (length l.first.now + length l.rest.now) - 1

abbrev pub decreases-work_in_halves-here : goal.decreases-work_in_halves-here
decreases-work_in_halves-here g l = 4 * length l.first.now + 1

abbrev pub decreases-work_in_halves-there : goal.decreases-work_in_halves-there
decreases-work_in_halves-there g l = 4 * length l.rest.now + 1
