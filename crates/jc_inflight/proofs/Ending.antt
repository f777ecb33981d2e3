-- How far the loops are that end a load.
use Rattle.std.proofs.Common.{◌≡◌, ℕ, ◌+◌, List, ◌++◌, take, drop, map, count_by}
use Rattle.jc_inflight.specs.declared.joiner.Joiner.{Joiner}
use Rattle.jc_inflight.specs.Joining.{waits_for}
use Rattle.jc_inflight.specs.Resolving.{answered_from}
use Rattle.jc_inflight.specs.Dissolving.{told_to_retry}

-- the first i joiners are answered, the last of them with this place; the others are as they were
pub record HasAnswered (load step place : ℕ) (old now : List Joiner) (i : ℕ) : Type 0 where
  pub list : answered_from load step (step + 1) old ≡ take i now ++ answered_from load step (place + 1) (drop i now)
  pub places : step + count_by (waits_for load) old ≡ place + count_by (waits_for load) (drop i now)

-- the first i joiners are told to retry, as many as waited; the others are as they were
pub record HasTold (load count : ℕ) (old now : List Joiner) (i : ℕ) : Type 0 where
  pub list : map (told_to_retry load) old ≡ take i now ++ map (told_to_retry load) (drop i now)
  pub waited : count_by (waits_for load) old ≡ count + count_by (waits_for load) (drop i now)
