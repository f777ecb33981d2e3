use Rattle.jc_record.proofs.Common.{◌≡◌, ◌≤◌, ◌+◌, length}
use Rattle.jc_text.specs.Pieces.{pieces_of}
use Rattle.jc_record.specs.Reading.{record_from}
use Rattle.jc_record.proofs.reading.read_lines.Given as goal

abbrev pub invariant-loop-text : goal.invariant-loop-text
invariant-loop-text l =
    (l.number + length l.rest ≤ length l.input + 1)
    × (record_from l.reading l.number (pieces_of l.rest) ≡ record_from l.fn.reading 1 (pieces_of l.input))

abbrev pub decreases-loop-text : goal.decreases-loop-text
decreases-loop-text l = length l.rest
