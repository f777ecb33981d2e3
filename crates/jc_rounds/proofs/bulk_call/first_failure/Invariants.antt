use Rattle.jc_rounds.proofs.Common.{◌≡◌, [], take, failures}
use Rattle.jc_rounds.proofs.bulk_call.first_failure.Given as goal

-- none of the keys before this one has failed
abbrev pub invariant-loop-one : goal.invariant-loop-one
invariant-loop-one l = failures (take l.one-index l.progress) ≡ []
