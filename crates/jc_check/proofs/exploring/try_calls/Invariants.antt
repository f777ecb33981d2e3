use Rattle.std.proofs.Common.{ℕ, ◌<◌, ◌≤◌}
use Rattle.jc_check.specs.Exploring.{CoversActs}
use Rattle.jc_check.specs.Nodes.{NodeValue}
use Rattle.jc_check.specs.States.{AreKnown, Grows, IsAt}
use Rattle.jc_check.proofs.exploring.try_calls.Given as goal

abbrev pub invariant-loop-call : goal.invariant-loop-call
invariant-loop-call l =
    AreKnown l.rules l.calls l.states × Grows l.fn.states l.states
    × ((n : NodeValue) → IsAt l.fn.states l.fn.place n → (k : ℕ) → l.fn.from ≤ k → k < l.call → CoversActs l.rules l.calls l.states n k)
