-- The meaning of an entry processor's calls on its entry: each answer looks back over the calls before it. This is the provider's
-- reading of JSR 107, "Entry Processors". Given are whether read-through is on, the entry's initial value or none, and what the
-- loader answers if it is asked.
--     mutation                      the entry after a call that mutates it: a value, or none
--     last_mutation                 the last mutation among the calls, if any
--     effect_of                     the net effect of a last mutation, or of none
--     is_get, has_get               whether a call asks for the value; whether one of these calls does
--     before_mutation               the calls before the first mutation
--     uses_load                     whether the loader is asked
--     first_get                     the place of the first call that asks for the value, if any
--     load_place                    the place of the call at which the loader is asked, if it is
--     answer_if                     an answer if the loader was asked, otherwise none
--     recorded_load                 the loader's answer: `NotAsked` if the calls don't use a load
--     found_in, failed_in           the value that a loader found, if any, and the code with which it failed, if it failed
--     failed_load                   the code of the load that failed in these calls, if one failed
--     value_or_fault                the answer to a call for the value: the fault of a load that failed, or the value
--     loaded_in                     the value that the loader found, if read-through is on
--     answer_after                  the answer to a call, after the calls before it
--     answers_after, all_answers    the answer to each of these calls, after others before them, and from the first
--     net_effect                    the net effect of a processor on its entry
--     process_answer                the answer of a processor, by its net effect and by what it returned
--     up_to_get                     the calls up to and with the first that asks for the value
--     played_calls                  those of the given calls that a played processor makes: none after a failed load
--     answer_value                  the value in an answer, if it is that of a call for the value
--     last_value                    the last value that was answered, if any
--     played_return                 the return of a played processor: its code, or the last value that it was answered
use Rattle.std.specs.Prelude.{ℕ, ◌+◌, List, [], ◌∷◌, ◌++◌, Bool, true, false, ◌&&◌, ◌||◌, Option, None, Some, Result, Ok, Err}
use Rattle.std.specs.Prelude.{is_some, is_none, if◌then◌else◌, option_map, unwrap_or}
use Rattle.std.specs.Option.{option_or}
use Rattle.jc_model.specs.declared.processor.EntryCall.{EntryCall}
use Rattle.jc_model.specs.declared.processor.EntryCall.TheVariants.{GetValue, Exists, SetValue, Remove}
use Rattle.jc_model.specs.declared.processor.EntryAnswer.{EntryAnswer}
use Rattle.jc_model.specs.declared.processor.EntryAnswer.TheVariants.{Value, Present, Done, Failed}
use Rattle.jc_model.specs.declared.event.LoadAnswer.{LoadAnswer}
use Rattle.jc_model.specs.declared.event.LoadAnswer.TheVariants as load
use Rattle.jc_model.specs.declared.event.Effect.{Effect}
use Rattle.jc_model.specs.declared.event.Effect.TheVariants as effect
use Rattle.jc_model.specs.declared.event.ProcessAnswer.{ProcessAnswer}
use Rattle.jc_model.specs.declared.event.ProcessAnswer.TheVariants as process
use Rattle.jc_model.specs.Cache.{Bytes}

-- 1. Mutations.

-- the entry that a mutation leaves: missing, or with a value
abbrev pub mutation : EntryCall → Option (Option Bytes)
mutation (SetValue value) = Some (Some value)
mutation Remove = Some None
mutation GetValue = None
mutation Exists = None

-- the last mutation among the calls, if any
abbrev pub last_mutation : List EntryCall → Option (Option Bytes)
last_mutation [] = None
last_mutation (call ∷ calls) = option_or (last_mutation calls) (mutation call)

abbrev pub effect_of : Option (Option Bytes) → Effect
effect_of None = effect.Keep
effect_of (Some None) = effect.Remove
effect_of (Some (Some value)) = effect.Set value

-- 2. The load.

abbrev pub is_get : EntryCall → Bool
is_get GetValue = true
is_get Exists = false
is_get (SetValue value) = false
is_get Remove = false

abbrev pub has_get : List EntryCall → Bool
has_get [] = false
has_get (call ∷ calls) = is_get call || has_get calls

-- the calls before the first mutation
abbrev pub before_mutation : List EntryCall → List EntryCall
before_mutation [] = []
before_mutation (call ∷ calls) = if is_some (mutation call) then [] else call ∷ before_mutation calls

-- the load is used exactly if a `getValue` has no mutation before it, nothing is there, and read-through is on
abbrev pub uses_load : Bool → Option Bytes → List EntryCall → Bool
uses_load read_through initial calls = read_through && is_none initial && has_get (before_mutation calls)

-- the place of the first `getValue`, from 0
abbrev pub first_get : List EntryCall → Option ℕ
first_get [] = None
first_get (call ∷ calls) = if is_get call then Some 0 else option_map (λ place. place + 1) (first_get calls)

-- the loader is asked by the first `getValue`
abbrev pub load_place : Bool → Option Bytes → List EntryCall → Option ℕ
load_place read_through initial calls = if uses_load read_through initial calls then first_get calls else None

abbrev pub answer_if : Bool → LoadAnswer → LoadAnswer
answer_if true answer = answer
answer_if false answer = load.NotAsked

-- the loader's answer as the step records it
abbrev pub recorded_load : Bool → Option Bytes → LoadAnswer → List EntryCall → LoadAnswer
recorded_load read_through initial answer calls = answer_if (uses_load read_through initial calls) answer

abbrev pub found_in : LoadAnswer → Option Bytes
found_in (load.Found value) = Some value
found_in load.NotAsked = None
found_in load.Nothing = None
found_in (load.Failed code) = None

abbrev pub failed_in : LoadAnswer → Option ℕ
failed_in (load.Failed code) = Some code
failed_in load.NotAsked = None
failed_in (load.Found value) = None
failed_in load.Nothing = None

-- the code of the load that failed in these calls, if one failed
abbrev pub failed_load : Bool → Option Bytes → LoadAnswer → List EntryCall → Option ℕ
failed_load read_through initial answer calls = if uses_load read_through initial calls then failed_in answer else None

-- 3. The answer to each call.

-- after a failed load each `getValue` gives its fault
abbrev pub value_or_fault : Option ℕ → Option Bytes → EntryAnswer
value_or_fault (Some code) value = Failed code
value_or_fault None value = Value value

abbrev pub loaded_in : Bool → LoadAnswer → Option Bytes
loaded_in read_through answer = if read_through then found_in answer else None

-- the answer to a call, after these calls before it
abbrev pub answer_after : Bool → Option Bytes → LoadAnswer → List EntryCall → EntryCall → EntryAnswer
answer_after read_through initial answer before GetValue =
    value_or_fault (failed_load read_through initial answer (before ++ GetValue ∷ []))
    (unwrap_or (last_mutation before) (option_or initial (loaded_in read_through answer)))
answer_after read_through initial answer before Exists =
    Present (is_none (failed_load read_through initial answer before)
    && unwrap_or (option_map is_some (last_mutation before))
    (is_some initial || (uses_load read_through initial before && is_some (found_in answer))))
answer_after read_through initial answer before (SetValue value) = Done
answer_after read_through initial answer before Remove = Done

abbrev pub answers_after : Bool → Option Bytes → LoadAnswer → List EntryCall → List EntryCall → List EntryAnswer
answers_after read_through initial answer before [] = []
answers_after read_through initial answer before (call ∷ calls) =
    answer_after read_through initial answer before call ∷ answers_after read_through initial answer (before ++ call ∷ []) calls

-- one answer for each call
abbrev pub all_answers : Bool → Option Bytes → LoadAnswer → List EntryCall → List EntryAnswer
all_answers read_through initial answer calls = answers_after read_through initial answer [] calls

-- 4. The answer of the processor.

-- the net effect: that of the last mutation. After a failed load there is none, since the mutations are then ignored
abbrev pub net_effect : Bool → Option Bytes → LoadAnswer → List EntryCall → Effect
net_effect read_through initial answer calls =
    if is_some (failed_load read_through initial answer calls) then effect.Keep else effect_of (last_mutation calls)

-- the processor's answer as the step records it: it returned a value or none, or failed
abbrev pub process_answer : Effect → Result (Option Bytes) ℕ → ProcessAnswer
process_answer net (Ok outcome) = process.Ended net outcome
process_answer net (Err code) = process.Failed code

-- 5. A processor that is played: its calls are given, and a code if it is to fail.

abbrev pub up_to_get : List EntryCall → List EntryCall
up_to_get [] = []
up_to_get (call ∷ calls) = call ∷ (if is_get call then [] else up_to_get calls)

-- the load that fails is that of the first `getValue`, and no call follows it
abbrev pub played_calls : Bool → Option Bytes → LoadAnswer → List EntryCall → List EntryCall
played_calls read_through initial answer calls =
    if is_some (failed_load read_through initial answer calls) then up_to_get calls else calls

abbrev pub answer_value : EntryAnswer → Option (Option Bytes)
answer_value (Value value) = Some value
answer_value (Present there) = None
answer_value Done = None
answer_value (Failed code) = None

abbrev pub last_value : List EntryAnswer → Option (Option Bytes)
last_value [] = None
last_value (answer ∷ answers) = option_or (last_value answers) (answer_value answer)

abbrev pub played_return : Option ℕ → List EntryAnswer → Result (Option Bytes) ℕ
played_return (Some code) answers = Err code
played_return None answers = Ok (unwrap_or (last_value answers) None)
