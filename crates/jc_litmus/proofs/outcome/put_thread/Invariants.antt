use Rattle.jc_litmus.proofs.Common.{◌≡◌, ◌++◌, item_text, text_up_to}
use Rattle.jc_litmus.proofs.outcome.put_thread.Given as goal

abbrev pub invariant-loop-at : goal.invariant-loop-at
invariant-loop-at l = l.out.items ≡ l.fn.out.items ++ text_up_to (item_text l.replies l.thread l.items) l.at
