use Rattle.jc_litmus.proofs.Common.{◌≡◌, ◌++◌, take, flat_map, thread_warnings}
use Rattle.jc_litmus.proofs.unknown_values.put_call_warnings.Given as goal

abbrev pub invariant-loop-items : goal.invariant-loop-items
invariant-loop-items l = l.out.items ≡ l.fn.out.items ++ flat_map (thread_warnings l.program) (take l.items-index l.program.threads.items)
