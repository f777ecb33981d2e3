use Rattle.jc_record.proofs.Common.{drop-map}
use Rattle.jc_record.specs.Notes.{note_value}
use Rattle.jc_record.proofs.at_key.KeyCalls.add_place.Goals as goal

pub returns : goal.returns
returns c = rw (drop-map note_value c.args.place c.args.notes.now, ← c.notes_from.ensures) c.add_first.ensures
