-- The joiners of a load (the calls that share it) after the load was committed: each has its answer.
--     with_answer      a joiner that is answered: the place of its own step, and that of the step that loaded
--     answered_from    the joiners after each that waits for the load is answered, the first at this place, each further one at
--                      the next
--     after_resolve    the joiners after the load is committed at this step: the places follow the step's own
use Rattle.std.specs.Prelude.{ℕ, ◌+◌, List, [], ◌∷◌, if◌then◌else◌}
use Rattle.jc_inflight.specs.declared.joiner.Joiner.{Joiner}
use Rattle.jc_inflight.specs.declared.joiner.JoinState.TheVariants.{Answered}
use Rattle.jc_inflight.specs.Joining.{waits_for}

abbrev pub with_answer : ℕ → ℕ → Joiner → Joiner
with_answer place step j = record j { state = Answered place step }

abbrev pub answered_from : ℕ → ℕ → ℕ → List Joiner → List Joiner
answered_from load step place [] = []
answered_from load step place (j ∷ joiners) =
    if waits_for load j then with_answer place step j ∷ answered_from load step (place + 1) joiners
    else j ∷ answered_from load step place joiners

abbrev pub after_resolve : ℕ → ℕ → List Joiner → List Joiner
after_resolve load step joiners = answered_from load step (step + 1) joiners
