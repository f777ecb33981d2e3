use Rattle.jc_record.proofs.Common.{◌≡◌, drop, map}
use Rattle.jc_record.specs.Notes.{note_value}
use Rattle.jc_record.specs.AtKey.{part_over}
use Rattle.jc_record.proofs.part.Part.add_all.Given as goal

abbrev pub invariant-loop-note : goal.invariant-loop-note
invariant-loop-note l = part_over l.key l.call l.self (map note_value (drop l.note-index l.notes)) ≡ part_over l.key l.call l.fn.self (map note_value l.notes)
