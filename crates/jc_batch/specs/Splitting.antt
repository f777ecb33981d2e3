-- Which keys of a batch were written and which failed, once its writer has returned: by the keys that it left, and its fault.
--     success_of      a key that was written, by its answer
--     failure_of      a key that failed, with its code, by its answer
--     successes_in    the keys of a batch that were written, in the batch's order
--     failures_in     the keys of a batch that failed, each with its code, in the batch's order
--     AreOutcomes     two lists are the split of these keys
use Rattle.std.specs.Prelude.{◌≡◌, ℕ, List, Option, None, Some}
use Rattle.std.specs.List.{filter_map}
use Rattle.jc_model.specs.declared.event.WriteAnswer.{WriteAnswer}
use Rattle.jc_model.specs.declared.event.WriteAnswer.TheVariants as write
use Rattle.jc_model.specs.Cache.{Bytes}
use Rattle.jc_model.specs.Batches.{answer_in_batch}

abbrev pub success_of : Bytes → WriteAnswer → Option Bytes
success_of key write.Done = Some key
success_of key write.NotAsked = None
success_of key (write.Failed code) = None

abbrev pub failure_of : Bytes → WriteAnswer → Option (Bytes × ℕ)
failure_of key (write.Failed code) = Some (key, code)
failure_of key write.NotAsked = None
failure_of key write.Done = None

-- parameters: the keys that are left, the fault, the batch's keys
abbrev pub successes_in : List Bytes → Option ℕ → List Bytes → List Bytes
successes_in left fault keys = filter_map (λ key. success_of key (answer_in_batch left fault key)) keys

-- parameters: the keys that are left, the fault, the batch's keys
abbrev pub failures_in : List Bytes → Option ℕ → List Bytes → List (Bytes × ℕ)
failures_in left fault keys = filter_map (λ key. failure_of key (answer_in_batch left fault key)) keys

-- `keys` are those of the batch that are still to be read
pub record AreOutcomes (left : List Bytes) (fault : Option ℕ) (keys written : List Bytes) (failed : List (Bytes × ℕ)) : Type 0 where
  pub written_are : written ≡ successes_in left fault keys
  pub failed_are : failed ≡ failures_in left fault keys
