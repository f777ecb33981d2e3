use Rattle.jc_loadall.proofs.Common.{◌≡◌, drop, find_note}
use Rattle.jc_loadall.proofs.notes.find_note.Given as goal

abbrev pub invariant-loop-note : goal.invariant-loop-note
invariant-loop-note l = find_note l.piece (drop l.note-index l.notes) ≡ find_note l.piece l.notes
