use Rattle.jc_litmus.proofs.Common.{◌≡◌, ◌++◌, take, flat_map, set_text}
use Rattle.jc_litmus.proofs.witness.put_stored.Given as goal

abbrev pub invariant-loop-entry : goal.invariant-loop-entry
invariant-loop-entry l = l.out.items ≡ l.fn.out.items ++ flat_map set_text (take l.entry-index l.stored)
