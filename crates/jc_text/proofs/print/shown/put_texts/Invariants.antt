use Rattle.jc_text.proofs.Common.{◌≡◌, ◌++◌, drop, texts}
use Rattle.jc_text.proofs.print.shown.put_texts.Given as goal

abbrev pub invariant-loop-place : goal.invariant-loop-place
invariant-loop-place l = l.out.items ++ texts (drop l.place l.events) (drop l.place l.seen) ≡ l.fn.out.items ++ texts l.events l.seen
