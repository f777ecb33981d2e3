use Rattle.jc_script.proofs.Common.{◌≡◌, ◌≤◌, ◌+◌, ◌++◌, ℕ, List, length, RunEnd, Transcript, IsTranscript, pieces_of, opened_world}
use Rattle.jc_script.proofs.TranscriptLines.{IsAt}
use Rattle.jc_script.proofs.run.lines.Given as goal

-- whatever the rest prints completes what was printed so far
abbrev pub invariant-loop-text : goal.invariant-loop-text
invariant-loop-text l =
    (l.number + length l.rest ≤ length l.input + 1)
    × IsAt l.input l.number l.rest
    × (l.told.items ≡ l.fn.told.items)
    × ((out : List ℕ) (end : RunEnd) → Transcript (opened_world l.player.world) l.number (pieces_of l.rest) out end → IsTranscript l.input (l.out.items ++ out) end)

abbrev pub decreases-loop-text : goal.decreases-loop-text
decreases-loop-text l = length l.rest
