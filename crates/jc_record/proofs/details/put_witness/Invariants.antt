use Rattle.jc_record.proofs.Common.{◌≡◌, ◌++◌, take, flat_map}
use Rattle.jc_record.specs.Details.{turn_line}
use Rattle.jc_record.proofs.details.put_witness.Given as goal

abbrev pub invariant-loop-turn : goal.invariant-loop-turn
invariant-loop-turn l = l.out.items ≡ l.fn.out.items ++ flat_map (turn_line l.calls) (take l.turn-index l.turns)
