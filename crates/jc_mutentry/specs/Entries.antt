-- An entry while a processor runs, and the effect of the processor's calls on it.
--     EntryState      an entry: its value when the processor began, whether it may load, the loader's answer, the net effect
--     new_entry       an entry before the first call
--     is_keep         a net effect that leaves the entry as it was
--     asks_load       whether a `getValue` now asks the loader
--     IsAfter         an entry is after these calls, and they were answered so
--     IsSameEntry     two states of one entry: it began with the same value, and the same leave to load
--     Makes           one more call was made on an entry, and answered this
--     MutableState    an entry with its key
--     get_answer      the answer to `getValue`, by its return
--     LoadsWhole      a loader was called once, with this key and this answer
--     LoadsOn         a loader was called once if the entry's load came meanwhile, otherwise not at all
use Rattle.std.specs.Prelude.{◌≡◌, ℕ, List, [], ◌∷◌, ◌++◌, Bool, true, false, not, ◌&&◌, ◌⊎◌, Option, Result, Ok, Err, is_none}
use Rattle.jc_model.specs.Cache.{Bytes}
use Rattle.jc_model.specs.declared.event.LoadAnswer.{LoadAnswer}
use Rattle.jc_model.specs.declared.event.LoadAnswer.TheVariants as load
use Rattle.jc_model.specs.declared.event.Effect.{Effect}
use Rattle.jc_model.specs.declared.event.Effect.TheVariants as effect
use Rattle.jc_model.specs.declared.processor.EntryCall.{EntryCall}
use Rattle.jc_model.specs.declared.processor.EntryAnswer.{EntryAnswer}
use Rattle.jc_model.specs.declared.processor.EntryAnswer.TheVariants.{Value, Failed}
use Rattle.jc_model.specs.Table.{is_load_given}
use Rattle.jc_model.specs.Processor.{uses_load, net_effect, all_answers}
use Rattle.jc_outside.specs.Calling.{LoadRelation, load_answer}

-- 1. An entry.

pub record EntryState : Type 0 where
  pub initial : Option Bytes
  pub may_load : Bool
  pub load : LoadAnswer
  pub effect : Effect

abbrev pub new_entry : Option Bytes → Bool → EntryState
new_entry initial may_load = record { initial = initial; may_load = may_load; load = load.NotAsked; effect = effect.Keep }

abbrev pub is_keep : Effect → Bool
is_keep effect.Keep = true
is_keep (effect.Set value) = false
is_keep effect.Remove = false

-- nothing is there, nothing was loaded, and nothing has mutated the entry
abbrev pub asks_load : EntryState → Bool
asks_load entry = entry.may_load && is_none entry.initial && not (is_load_given entry.load) && is_keep entry.effect

-- 2. Its calls.

-- the loader was asked exactly if the calls use a load; the net effect and the answers are those of the calls
pub record IsAfter (entry : EntryState) (calls : List EntryCall) (answers : List EntryAnswer) : Type 0 where
  pub asked : is_load_given entry.load ≡ uses_load entry.may_load entry.initial calls
  pub net : entry.effect ≡ net_effect entry.may_load entry.initial entry.load calls
  pub answers_are : answers ≡ all_answers entry.may_load entry.initial entry.load calls

pub record IsSameEntry (old new : EntryState) : Type 0 where
  pub initial : new.initial ≡ old.initial
  pub may_load : new.may_load ≡ old.may_load

-- whatever was called before: this call comes after it, with this answer
pub record Makes (old : EntryState) (call : EntryCall) (answer : EntryAnswer) (new : EntryState) : Type 0 where
  pub same : IsSameEntry old new
  pub after : (calls : List EntryCall) (answers : List EntryAnswer) → IsAfter old calls answers
      → IsAfter new (calls ++ call ∷ []) (answers ++ answer ∷ [])

-- 3. An entry with its key, and a loader.

pub record MutableState : Type 0 where
  pub key : Bytes
  pub entry : EntryState

abbrev pub get_answer : Result (Option Bytes) ℕ → EntryAnswer
get_answer (Ok value) = Value value
get_answer (Err code) = Failed code

-- the loader has returned the answer
abbrev pub LoadsWhole : {L : Type 0} → LoadRelation L → (L → List ℕ) → Bytes → LoadAnswer → L → L → Type 0
LoadsWhole loads state key answer old new =
    (returned : Result (Option Bytes) ℕ) × (answer ≡ load_answer returned) × loads old key returned (state new)

abbrev pub LoadsOn : {L : Type 0} → LoadRelation L → (L → List ℕ) → Bytes → LoadAnswer → LoadAnswer → L → L → Type 0
LoadsOn loads state key before after old new =
    ((after ≡ before) × (new ≡ old)) ⊎ ((before ≡ load.NotAsked) × LoadsWhole loads state key after old new)
