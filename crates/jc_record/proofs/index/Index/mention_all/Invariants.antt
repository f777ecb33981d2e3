use Rattle.jc_record.proofs.Common.{◌≡◌, drop}
use Rattle.jc_record.specs.Index.{mentions}
use Rattle.jc_record.proofs.index.Index.mention_all.Given as goal

abbrev pub invariant-loop-key : goal.invariant-loop-key
invariant-loop-key l = mentions l.place l.self (drop l.key-index l.keys) ≡ mentions l.place l.fn.self l.keys
