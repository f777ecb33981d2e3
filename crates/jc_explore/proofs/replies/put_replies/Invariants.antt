use Rattle.jc_explore.proofs.Common.{◌≡◌, drop, replies_after}
use Rattle.jc_explore.proofs.replies.put_replies.Given as goal

abbrev pub invariant-loop-one : goal.invariant-loop-one
invariant-loop-one l = replies_after l.thread l.replies.items (drop l.one-index l.shown) ≡ replies_after l.thread l.fn.replies.items l.shown
