-- A run of an entry processor on its entry: its calls there with their answers, and the call of its loader.
--     IsRun              the load, the answers and the processor's answer are those of one list of calls on the entry
--     LoadsIfGiven       a session's loader was called once if it has answered, otherwise not at all
--     ProcessRelation    the relation of a processor's run: the processor before, the key, the arguments, the calls on the entry,
--                        what they answered, what the run returned, its state afterwards
--     RunsOnce           a processor was run once, on an entry of this key with this initial value or none, and this is its
--                        outcome
use Rattle.std.specs.Prelude.{◌≡◌, ℕ, List, Bool, Option, Result, MatchBool}
use Rattle.jc_model.specs.Cache.{Bytes}
use Rattle.jc_model.specs.declared.event.LoadAnswer.{LoadAnswer}
use Rattle.jc_model.specs.declared.event.ProcessAnswer.{ProcessAnswer}
use Rattle.jc_model.specs.declared.processor.EntryCall.{EntryCall}
use Rattle.jc_model.specs.declared.processor.EntryAnswer.{EntryAnswer}
use Rattle.jc_model.specs.Table.{is_load_given}
use Rattle.jc_model.specs.Processor.{uses_load, all_answers, net_effect, process_answer}
use Rattle.jc_outside.specs.Calling.{LoadRelation, LoadsOnce}

-- for an entry that may ask the loader or not, and has this initial value or none
pub record IsRun (may_load : Bool) (initial : Option Bytes) (load : LoadAnswer) (process : ProcessAnswer)
    (calls : List EntryCall) (answers : List EntryAnswer) (returned : Result (Option Bytes) ℕ) : Type 0 where
  pub asked : is_load_given load ≡ uses_load may_load initial calls
  pub answers_are : answers ≡ all_answers may_load initial load calls
  pub did : process ≡ process_answer (net_effect may_load initial load calls) returned

abbrev pub LoadsIfGiven : {L : Type 0} → LoadRelation L → (L → List ℕ) → Option L → Bytes → LoadAnswer → Option L → Type 0
LoadsIfGiven loads state old key answer new =
    MatchBool (is_load_given answer) (LoadsOnce loads state old key answer new) (new ≡ old)

abbrev pub ProcessRelation : Type 0 → Type 1
ProcessRelation P = P → Bytes → List Bytes → List EntryCall → List EntryAnswer → Result (Option Bytes) ℕ → List ℕ → Type 0

abbrev pub RunsOnce : {P : Type 0} → ProcessRelation P → (P → List ℕ) → P → Bytes → List Bytes → Bool → Option Bytes → LoadAnswer
    → ProcessAnswer → P → Type 0
RunsOnce processes state old key args may_load initial load process new =
    (calls : List EntryCall) × (answers : List EntryAnswer) × (returned : Result (Option Bytes) ℕ)
    × IsRun may_load initial load process calls answers returned × processes old key args calls answers returned (state new)
