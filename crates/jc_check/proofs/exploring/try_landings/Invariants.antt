use Rattle.std.proofs.Common.{take}
use Rattle.jc_check.specs.Exploring.{CoversLandings}
use Rattle.jc_check.specs.Nodes.{NodeValue}
use Rattle.jc_check.specs.States.{AreKnown, Grows, IsAt}
use Rattle.jc_check.proofs.exploring.try_landings.Given as goal

abbrev pub invariant-loop-at : goal.invariant-loop-at
invariant-loop-at l =
    AreKnown l.rules l.calls l.states × Grows l.fn.states l.states
    × ((n : NodeValue) → IsAt l.fn.states l.fn.place n → CoversLandings l.rules l.calls l.states (take l.at l.survey.landable.items) n)
