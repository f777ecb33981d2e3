-- The joiners of a load (the calls that share it) after the load was withdrawn: each is told to retry.
--     told_to_retry      a joiner that is told to retry, if it waits for the load
--     after_dissolve     the joiners after the load is withdrawn
use Rattle.std.specs.Prelude.{ℕ, List, map, if◌then◌else◌}
use Rattle.jc_inflight.specs.declared.joiner.Joiner.{Joiner}
use Rattle.jc_inflight.specs.declared.joiner.JoinState.TheVariants.{Again}
use Rattle.jc_inflight.specs.Joining.{waits_for}

abbrev pub told_to_retry : ℕ → Joiner → Joiner
told_to_retry load j = if waits_for load j then record j { state = Again } else j

abbrev pub after_dissolve : ℕ → List Joiner → List Joiner
after_dissolve load joiners = map (told_to_retry load) joiners
