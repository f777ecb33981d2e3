use Rattle.jc_litmus.proofs.Common.{◌≡◌, drop, reply_of}
use Rattle.jc_litmus.proofs.judge.reply_of.Given as goal

abbrev pub invariant-loop-one : goal.invariant-loop-one
invariant-loop-one l = reply_of l.thread l.left (drop l.one-index l.replies) ≡ reply_of l.thread l.call l.replies
