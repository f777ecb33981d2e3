use Rattle.jc_text.proofs.Common.{◌≡◌, ◌++◌, take, flat_map, key_text}
use Rattle.jc_text.proofs.print.lines.put_keys.Given as goal

abbrev pub invariant-loop-key : goal.invariant-loop-key
invariant-loop-key l = l.out.items ≡ l.fn.out.items ++ flat_map key_text (take l.key-index l.keys)
