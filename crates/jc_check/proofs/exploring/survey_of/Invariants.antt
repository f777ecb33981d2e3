use Rattle.std.proofs.Common.{ℕ, ◌<◌, ◌≡◌, true}
use Rattle.jc_check.specs.Nodes.{HasLanded, landable_at}
use Rattle.jc_check.proofs.exploring.survey_of.Given as goal

abbrev pub invariant-loop-call : goal.invariant-loop-call
invariant-loop-call l = (k : ℕ) → k < l.call → landable_at l.calls k ≡ true → HasLanded l.landable.items k
