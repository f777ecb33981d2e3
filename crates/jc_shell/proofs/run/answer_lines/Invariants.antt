use Rattle.jc_shell.proofs.Common.{◌≡◌, ◌++◌, ℕ, List, false, length, Appends, opened_world, Holds, SaveCall, Calls, Accepted, AreAnswered, script_of}
use Rattle.jc_shell.proofs.run.answer_lines.Given as goal

-- whatever was accepted before these bytes
abbrev pub invariant-loop-line : goal.invariant-loop-line
invariant-loop-line g l =
    ((a : Accepted) → Holds a l.fn.session.script.items l.fn.session.lines (opened_world l.fn.session.player.world)
    → (lines : List (List ℕ)) × (answers : List ℕ) × (saved : List SaveCall) × (b : Accepted)
    × AreAnswered l.prompt a lines answers saved b
    × (l.bytes ≡ script_of lines ++ l.rest)
    × Appends (g.W.Write.contents l.fn.writer.inner) (g.W.Write.contents l.writer.inner) answers
    × Calls (g.S.Save.calls l.fn.saves) (g.S.Save.calls l.saves) saved
    × Holds b l.session.script.items l.session.lines (opened_world l.session.player.world))
    × (l.fn.writer.failed ≡ false → l.writer.failed ≡ false)

abbrev pub decreases-loop-line : goal.decreases-loop-line
decreases-loop-line g l = length l.rest
