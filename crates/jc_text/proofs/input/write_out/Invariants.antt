use Rattle.jc_text.proofs.Common.{◌≡◌, false, ◌≤◌, ◌-◌, length, take, Appends}
use Rattle.jc_text.proofs.input.write_out.Given as goal

abbrev pub invariant-loop-at : goal.invariant-loop-at
invariant-loop-at g l = (l.at ≤ length l.bytes) × Appends (g.W.Write.contents l.fn.writer.inner) (g.W.Write.contents l.writer.inner) (take l.at l.bytes)
    × (l.fn.writer.failed ≡ false → l.writer.failed ≡ false)

abbrev pub decreases-loop-at : goal.decreases-loop-at
decreases-loop-at g l = length l.bytes - l.at
