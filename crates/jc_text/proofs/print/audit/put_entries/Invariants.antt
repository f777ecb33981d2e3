use Rattle.jc_text.proofs.Common.{◌≡◌, ◌++◌, take, flat_map, entry_text}
use Rattle.jc_text.proofs.print.audit.put_entries.Given as goal

abbrev pub invariant-loop-entry : goal.invariant-loop-entry
invariant-loop-entry l = l.out.items ≡ l.fn.out.items ++ flat_map entry_text (take l.entry-index l.entries)
