use Rattle.jc_record.proofs.Common.{◌≡◌, ◌++◌, drop}
use Rattle.jc_record.specs.Reading.{without}
use Rattle.jc_record.proofs.open_calls.without.Given as goal

abbrev pub invariant-loop-one : goal.invariant-loop-one
invariant-loop-one l = l.others.items ++ without l.call (drop l.one-index l.under_way) ≡ without l.call l.under_way
