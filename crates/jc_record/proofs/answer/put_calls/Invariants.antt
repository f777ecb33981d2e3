use Rattle.jc_record.proofs.Common.{◌≡◌, ◌++◌, take, flat_map}
use Rattle.jc_record.specs.Answers.{call_line}
use Rattle.jc_record.proofs.answer.put_calls.Given as goal

abbrev pub invariant-loop-call : goal.invariant-loop-call
invariant-loop-call l = l.out.items ≡ l.fn.out.items ++ flat_map call_line (take l.call-index l.calls)
