use Rattle.jc_snapshot.proofs.Common.{◌≡◌, take, fold}
use Rattle.jc_snapshot.specs.declared.snapshot.TheConstants.{FINGERPRINT_START}
use Rattle.jc_snapshot.specs.Fingerprint.{print_with}
use Rattle.jc_snapshot.proofs.snapshot.fingerprint_of.Given as goal

abbrev pub invariant-loop-word : goal.invariant-loop-word
invariant-loop-word l = l.print ≡ fold print_with FINGERPRINT_START (take l.word-index l.words)
