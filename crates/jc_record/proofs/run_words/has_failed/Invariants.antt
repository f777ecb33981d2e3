use Rattle.jc_record.proofs.Common.{◌≡◌, drop}
use Rattle.jc_record.specs.Words.{has_failed}
use Rattle.jc_record.proofs.run_words.has_failed.Given as goal

abbrev pub invariant-loop-sight : goal.invariant-loop-sight
invariant-loop-sight l = has_failed (drop l.sight-index l.sights) ≡ has_failed l.sights
