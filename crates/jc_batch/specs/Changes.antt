-- The changes of the store that one call of the writer is asked for, key by key of its batch.
--     changes_of     each key of the batch with the change that is asked for there, in the batch's order
use Rattle.std.specs.Prelude.{List, Option, Some, map}
use Rattle.jc_model.specs.declared.event.Change.{Change}
use Rattle.jc_model.specs.declared.event.Change.TheVariants.{Write, Delete}
use Rattle.jc_model.specs.Cache.{Bytes}
use Rattle.jc_batch.specs.declared.batch.Batch.{Batch}
use Rattle.jc_batch.specs.declared.batch.Batch.TheVariants.{Writes, Deletes}

-- a change as an ask names it
abbrev pub changes_of : Batch → List (Bytes × Option Change)
changes_of (Writes batch) = map (λ entry. (entry.0, Some (Write entry.1))) batch.items
changes_of (Deletes batch) = map (λ key. (key, Some Delete)) batch.items
