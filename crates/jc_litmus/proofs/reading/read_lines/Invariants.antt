use Rattle.jc_litmus.proofs.Common.{◌≡◌, ◌≤◌, ◌+◌, length, pieces_of, explanation_from, program_from}
use Rattle.jc_litmus.proofs.reading.read_lines.Given as goal

abbrev pub invariant-loop-text : goal.invariant-loop-text
invariant-loop-text l =
    (l.number + length l.rest ≤ length l.input + 1)
    × (program_from l.reading l.number (pieces_of l.rest) ≡ program_from l.fn.reading 1 (pieces_of l.input))
    × (l.notes.items ≡ l.fn.notes.items)
    × (explanation_from l.reading l.number (pieces_of l.rest) ≡ explanation_from l.fn.reading 1 (pieces_of l.input))

abbrev pub decreases-loop-text : goal.decreases-loop-text
decreases-loop-text l = length l.rest
