use Rattle.jc_explore.proofs.Common.{◌≡◌, take, fold, print_with_reply}
use Rattle.jc_explore.proofs.key.with_replies.Given as goal

abbrev pub invariant-loop-reply : goal.invariant-loop-reply
invariant-loop-reply l = l.longer ≡ fold print_with_reply l.print (take l.reply-index l.replies)
