use Rattle.jc_record.proofs.Common.{◌≡◌, ◌++◌, take, flat_map}
use Rattle.jc_record.specs.Details.{spot_line}
use Rattle.jc_record.proofs.details.put_spot_lines.Given as goal

abbrev pub invariant-loop-spot : goal.invariant-loop-spot
invariant-loop-spot l = l.out.items ≡ l.fn.out.items ++ flat_map (spot_line l.rules l.call) (take l.spot-index l.spots)
