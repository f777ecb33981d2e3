use Rattle.jc_rounds.proofs.Common.{◌<◌, ℕ, StillWaits}
use Rattle.jc_rounds.proofs.bulk_call.first_waiting.Given as goal

-- no key before this place waits
abbrev pub invariant-loop-place : goal.invariant-loop-place
invariant-loop-place l = (earlier : ℕ) → earlier < l.place → StillWaits l.progress earlier → ⊥
