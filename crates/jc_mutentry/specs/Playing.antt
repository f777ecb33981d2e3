-- A played run of an entry processor. Given are its calls on the entry, a code if it is to fail, and the answer of its loader if
-- that is asked.
--     played_answers    the answers to the calls that it makes: none is made after a failed load
--     played_load       the loader's answer
--     played_outcome    the processor's answer
--     LoadsAs           an entry's load stays as it was, or it came and is this answer
--     IsPlayed          an entry is after those of these calls that are made, with these answers and the last value among them
use Rattle.std.specs.Prelude.{◌≡◌, ◌⊎◌, ℕ, List, Bool, Option, None, unwrap_or}
use Rattle.jc_model.specs.Cache.{Bytes}
use Rattle.jc_model.specs.declared.event.LoadAnswer.{LoadAnswer}
use Rattle.jc_model.specs.declared.event.ProcessAnswer.{ProcessAnswer}
use Rattle.jc_model.specs.declared.processor.EntryCall.{EntryCall}
use Rattle.jc_model.specs.declared.processor.EntryAnswer.{EntryAnswer}
use Rattle.jc_model.specs.Processor.{all_answers, recorded_load, net_effect, process_answer, played_calls, played_return}
use Rattle.jc_model.specs.Processor.{last_value}
use Rattle.jc_mutentry.specs.Entries.{EntryState, IsAfter}

abbrev pub played_answers : Bool → Option Bytes → LoadAnswer → List EntryCall → List EntryAnswer
played_answers may_load initial answer calls = all_answers may_load initial answer (played_calls may_load initial answer calls)

abbrev pub played_load : Bool → Option Bytes → LoadAnswer → List EntryCall → LoadAnswer
played_load may_load initial answer calls = recorded_load may_load initial answer (played_calls may_load initial answer calls)

abbrev pub played_outcome : Bool → Option Bytes → LoadAnswer → List EntryCall → Option ℕ → ProcessAnswer
played_outcome may_load initial answer calls fail =
    process_answer (net_effect may_load initial answer (played_calls may_load initial answer calls))
    (played_return fail (played_answers may_load initial answer calls))

abbrev pub LoadsAs : LoadAnswer → LoadAnswer → LoadAnswer → Type 0
LoadsAs answer before after = (after ≡ before) ⊎ (after ≡ answer)

pub record IsPlayed (entry : EntryState) (answer : LoadAnswer) (calls : List EntryCall) (answers : List EntryAnswer)
    (last : Option Bytes) : Type 0 where
  pub after : IsAfter entry (played_calls entry.may_load entry.initial answer calls) answers
  pub said : entry.load ≡ played_load entry.may_load entry.initial answer calls
  pub value : last ≡ unwrap_or (last_value answers) None
