use Rattle.jc_explore.proofs.Common.{◌<◌, ℕ, IsKeyAt}
use Rattle.jc_explore.proofs.known.States.is_anywhere.Given as goal

abbrev pub invariant-loop-place : goal.invariant-loop-place
invariant-loop-place l = (k : ℕ) → k < l.place → IsKeyAt l.self.list.items k l.key → ⊥
