use Rattle.jc_record.proofs.Common.{◌≡◌, drop, map}
use Rattle.jc_record.specs.Notes.{note_value}
use Rattle.jc_record.specs.AtKey.{at_places}
use Rattle.jc_record.proofs.at_key.KeyCalls.add_places.Given as goal

abbrev pub invariant-loop-place : goal.invariant-loop-place
invariant-loop-place l =
    at_places l.key l.write_through (map note_value l.notes) l.self (drop l.place-index l.places)
    ≡ at_places l.key l.write_through (map note_value l.notes) l.fn.self l.places
