use Rattle.jc_text.proofs.Common.{sym, arith, length, ◌+◌, ◌<◌, take_rest, length-drop}
use Rattle.jc_text.proofs.Pieces.{cut_at, uncut, within}
use Rattle.jc_text.proofs.lines.first_line.Goals as goal

pub returns-in-None : goal.returns-in-None
returns-in-None c = uncut c.args.bytes.now (sym c.in-None.ensures)

pub returns-in-Some : goal.returns-in-Some
returns-in-Some c =
    let bs = c.args.bytes.now in
    let at = c.in-Some.at in
    let found = sym c.in-Some.ensures in
    let lt : at < length bs = within bs at found in
    rw (take_rest bs (at + 1)) (cut_at bs at found, omega (arith, length-drop (at + 1) bs))
