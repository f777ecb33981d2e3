use Rattle.jc_record.proofs.Common.{◌≡◌, ◌++◌, take, flat_map}
use Rattle.jc_record.specs.Details.{part_line}
use Rattle.jc_record.proofs.details.put_part_lines.Given as goal

abbrev pub invariant-loop-call : goal.invariant-loop-call
invariant-loop-call l = l.out.items ≡ l.fn.out.items ++ flat_map part_line (take l.call-index l.calls)
