-- Laws that follow from the operation table.
--     FaultLeavesCache     a step with a fault leaves the whole cache as it was
--     OtherKeysStay        a step leaves the entry of every other key as it was
use Rattle.std.specs.Prelude.{◌≡◌, ◌≢◌, IsTrue, is_some}
use Rattle.jc_model.specs.Cache.{Bytes, Cache, entry_at}
use Rattle.jc_model.specs.Table.{NewStep, first_fault, seq_cache}

abbrev pub FaultLeavesCache : Type 0
FaultLeavesCache = (cache : Cache) (step : NewStep) → IsTrue (is_some (first_fault step.out)) → seq_cache cache step ≡ cache

abbrev pub OtherKeysStay : Type 0
OtherKeysStay =
    (cache : Cache) (step : NewStep) (key : Bytes) → key ≢ step.key → entry_at (seq_cache cache step) key ≡ entry_at cache key
