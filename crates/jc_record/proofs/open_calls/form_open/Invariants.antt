use Rattle.jc_record.proofs.Common.{◌≡◌, drop}
use Rattle.jc_record.specs.Reading.{form_open}
use Rattle.jc_record.proofs.open_calls.form_open.Given as goal

abbrev pub invariant-loop-one : goal.invariant-loop-one
invariant-loop-one l = form_open l.call (drop l.one-index l.under_way) ≡ form_open l.call l.under_way
