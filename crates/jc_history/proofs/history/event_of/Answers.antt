use Rattle.jc_history.proofs.Places.{event_at_place}
use Rattle.jc_history.proofs.history.event_of.Goals as goal

pub bounds-starts-place : goal.bounds-starts-place
bounds-starts-place c = c.requires.place

pub returns : goal.returns
returns c = event_at_place c.args.bytes.now c.args.starts.now c.args.place c.decode_event.result c.requires.place c.decode_event.ensures
