use Rattle.jc_text.proofs.Common.{◌≡◌, ◌++◌, take, flat_map, reported_line}
use Rattle.jc_text.proofs.print.shown.put_reported_keys.Given as goal

abbrev pub invariant-loop-one : goal.invariant-loop-one
invariant-loop-one l = l.out.items ≡ l.fn.out.items ++ flat_map (reported_line l.call) (take l.one-index l.keys)
