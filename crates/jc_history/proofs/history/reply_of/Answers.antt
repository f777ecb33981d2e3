use Rattle.jc_history.proofs.Places.{reply_at_place, no_reply_past}
use Rattle.jc_history.proofs.history.reply_of.Goals as goal

pub bounds-starts-place : goal.bounds-starts-place
bounds-starts-place c = c.if-place-starts.true

pub returns-then-place-starts : goal.returns-then-place-starts
returns-then-place-starts c =
    reply_at_place c.args.bytes.now c.args.starts.now c.args.place c.decode_reply_of_step.result c.if-place-starts.true c.decode_reply_of_step.ensures

pub returns-else-place-starts : goal.returns-else-place-starts
returns-else-place-starts c = no_reply_past c.args.bytes.now c.args.starts.now c.args.place c.if-place-starts.false
