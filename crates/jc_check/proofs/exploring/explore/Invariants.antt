use Rattle.jc_check.specs.Exploring.{AreDone}
use Rattle.jc_check.specs.States.{AreKnown, Grows}
use Rattle.jc_check.proofs.exploring.explore.Given as goal

abbrev pub invariant-loop-place : goal.invariant-loop-place
invariant-loop-place l =
    AreKnown l.rules l.calls l.states × Grows l.fn.states l.states × AreDone l.rules l.calls l.states l.place
