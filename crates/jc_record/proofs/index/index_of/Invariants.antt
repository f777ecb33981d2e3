use Rattle.jc_record.proofs.Common.{◌≡◌, drop, map}
use Rattle.jc_record.specs.Notes.{note_value}
use Rattle.jc_record.specs.Index.{index_from, index_of}
use Rattle.jc_record.proofs.index.index_of.Given as goal

abbrev pub invariant-loop-place : goal.invariant-loop-place
invariant-loop-place l = index_from l.place l.index (map note_value (drop l.place l.notes)) ≡ index_of (map note_value l.notes)
