use Rattle.jc_record.proofs.Common.{◌≡◌, ◌≤◌, ◌-◌, false, vec_len, Consumes}
use Rattle.jc_record.proofs.input.read_all.Given as goal

abbrev pub invariant-loop-chunk : goal.invariant-loop-chunk
invariant-loop-chunk g l = (vec_len l.input ≤ 1073741825) × Consumes (g.R.Read.remaining l.fn.reader.inner) (g.R.Read.remaining l.reader.inner) l.input.items
    × (l.fn.reader.failed ≡ false → l.reader.failed ≡ false)

abbrev pub decreases-loop-chunk : goal.decreases-loop-chunk
decreases-loop-chunk g l = 1073741825 - vec_len l.input
