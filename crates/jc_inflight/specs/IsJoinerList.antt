-- The invariant of the list of a stripe's joiners, the calls that have joined a load.
--     IsJoinerList     there are at most JOINERS_MAX, and no two are of one caller and key
use Rattle.std.specs.Prelude.{◌≡◌, ◌≤◌, List, length, false, AllPairs}
use Rattle.jc_types.specs.declared.limits.TheConstants.{JOINERS_MAX}
use Rattle.jc_inflight.specs.declared.joiner.Joiner.{Joiner}
use Rattle.jc_inflight.specs.Joining.{belongs_to}

pub record IsJoinerList (joiners : List Joiner) : Type 0 where
  pub few : length joiners ≤ JOINERS_MAX
  pub once : AllPairs (λ j later. belongs_to j.caller j.key later ≡ false) joiners
