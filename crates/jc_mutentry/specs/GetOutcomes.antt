-- The outcome of `getValue`, as an entry processor calls it on its entry, before a loader is asked.
--     IsGetOutcome    the outcome is the answer of the call, and nothing changes; or the loader is to be asked
use Rattle.std.specs.Prelude.{◌≡◌, true}
use Rattle.jc_model.specs.declared.processor.EntryCall.TheVariants.{GetValue}
use Rattle.jc_model.specs.declared.processor.EntryAnswer.TheVariants as answer
use Rattle.jc_mutentry.specs.declared.entry_core.GetOutcome.{GetOutcome}
use Rattle.jc_mutentry.specs.declared.entry_core.GetOutcome.TheVariants.{Value, MustLoad, Failed}
use Rattle.jc_mutentry.specs.Entries.{EntryState, asks_load, Makes}

abbrev pub IsGetOutcome : EntryState → GetOutcome → Type 0
IsGetOutcome entry (Value value) = Makes entry GetValue (answer.Value value) entry
IsGetOutcome entry (Failed code) = Makes entry GetValue (answer.Failed code) entry
IsGetOutcome entry MustLoad = asks_load entry ≡ true
