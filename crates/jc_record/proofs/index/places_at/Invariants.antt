use Rattle.jc_record.proofs.Common.{◌≡◌, ◌++◌, drop}
use Rattle.jc_record.specs.Index.{places_at}
use Rattle.jc_record.proofs.index.places_at.Given as goal

abbrev pub invariant-loop-one : goal.invariant-loop-one
invariant-loop-one l = l.places.items ++ places_at l.key (drop l.one-index l.mentions) ≡ places_at l.key l.mentions
