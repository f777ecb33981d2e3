use Rattle.jc_litmus.proofs.Common.{◌≡◌, ◌++◌, map, drop, call_text, spaced}
use Rattle.jc_litmus.proofs.spelling.put_entry_calls.Given as goal

abbrev pub invariant-loop-call : goal.invariant-loop-call
invariant-loop-call l = l.out.items ++ spaced (map call_text (drop l.call-index l.calls)) ≡ l.fn.out.items ++ spaced (map call_text l.calls)
