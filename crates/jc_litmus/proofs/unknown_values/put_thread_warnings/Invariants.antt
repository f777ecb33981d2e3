use Rattle.jc_litmus.proofs.Common.{◌≡◌, ◌++◌, take, flat_map, item_warning}
use Rattle.jc_litmus.proofs.unknown_values.put_thread_warnings.Given as goal

abbrev pub invariant-loop-item : goal.invariant-loop-item
invariant-loop-item l = l.out.items ≡ l.fn.out.items ++ flat_map (item_warning l.program) (take l.item-index l.items)
