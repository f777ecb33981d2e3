use Rattle.jc_text.proofs.Common.{◌≤◌, arith, rules, drop, length, take_rest, length-drop, take-add}
use Rattle.jc_text.proofs.Pieces.{appends-then}
use Rattle.jc_text.proofs.input.write_out.Goals as goal

pub loop-at-preserved : goal.loop-at-preserved
loop-at-preserved g c =
    let at = c.loop-at.at in
    let n = c.in-Ok.n in
    let bs = c.args.bytes.now in
    let ensures = rw (take_rest bs at) at c.in-Ok.ensures in
    let bound : n ≤ length (drop at bs) = ensures.bound in
    (omega (arith, length-drop at bs), rw (take-add at n bs) (appends-then _ _ _ _ _ c.loop-at.invariant.1 ensures.bytes), search rules)
