-- Keys whose entry processor is asked, runs, and is committed.
--     invoke_is          what runs a processor is an `Invoke`
--     agrees_processed   what a processor leaves after which no writer is asked agrees with the store
--     agrees_effect      so does what it leaves once the writer that is asked after it has returned
use Rattle.jc_model.specs.declared.event.Effect.{Effect}
use Rattle.jc_model.specs.Processor.{process_answer}
use Rattle.jc_world.proofs.Common.{Some, Result, Ok, Err, ℕ, changed_to, is_done, is_process_given, Change, ◌≡◌, Bool, true, false, is_some, is_none, None, Option, sym, refl, Bytes, is_write_given, is_invoke, entry_after, LoadAnswer, Op, Invoke, ProcessAnswer, WriteAnswer, effect_change, Agrees, LoadAgrees}
use Rattle.jc_model.specs.declared.event.Effect.TheVariants as effect

pub invoke_is : (op : Op) → is_invoke op ≡ true → op ≡ Invoke
invoke_is Invoke h = refl
invoke_is op h = cc

pub agrees_processed : (loaded : LoadAnswer) (process : ProcessAnswer) (entry stored : Option Bytes) → is_none (effect_change loaded process) ≡ true → LoadAgrees loaded stored entry
    → Agrees (entry_after Invoke entry (record { load = loaded; write = WriteAnswer.NotAsked; process = process })) stored
agrees_processed LoadAnswer.NotAsked (ProcessAnswer.Ended (effect.Set next) outcome) entry stored none h = cc
agrees_processed LoadAnswer.NotAsked (ProcessAnswer.Ended effect.Remove outcome) entry stored none h = cc
agrees_processed (LoadAnswer.Found value) ProcessAnswer.NotAsked entry stored none h = h.loaded
agrees_processed (LoadAnswer.Found value) (ProcessAnswer.Ended effect.Keep outcome) entry stored none h = h.loaded
agrees_processed (LoadAnswer.Found value) (ProcessAnswer.Ended (effect.Set next) outcome) entry stored none h = cc
agrees_processed (LoadAnswer.Found value) (ProcessAnswer.Ended effect.Remove outcome) entry stored none h = cc
agrees_processed LoadAnswer.Nothing (ProcessAnswer.Ended (effect.Set next) outcome) entry stored none h = cc
agrees_processed LoadAnswer.Nothing (ProcessAnswer.Ended effect.Remove outcome) entry stored none h = cc
agrees_processed loaded process entry stored none h = h.unwritten

-- the store holds what the writer was asked for
abbrev pub WrittenFor : Option Change → Option Bytes → Type 0
WrittenFor None stored = ⊥
WrittenFor (Some change) stored = stored ≡ changed_to change

pub agrees_effect : (loaded : LoadAnswer) (process : ProcessAnswer) (is_changed : Bool) (report : WriteAnswer) (entry stored : Option Bytes) → is_some (effect_change loaded process) ≡ true → is_write_given report ≡ true
    → (is_changed ≡ true → WrittenFor (effect_change loaded process) stored) → (is_changed ≡ false → Agrees entry stored) → (is_write_given report ≡ true → is_done report ≡ is_changed)
    → Agrees (entry_after Invoke entry (record { load = loaded; write = report; process = process })) stored
agrees_effect LoadAnswer.NotAsked (ProcessAnswer.Ended (effect.Set next) outcome) is_changed WriteAnswer.Done entry stored due given written unwritten honest = written (sym (honest refl))
agrees_effect LoadAnswer.NotAsked (ProcessAnswer.Ended (effect.Set next) outcome) is_changed (WriteAnswer.Failed code) entry stored due given written unwritten honest = unwritten (sym (honest refl))
agrees_effect LoadAnswer.NotAsked (ProcessAnswer.Ended effect.Remove outcome) is_changed WriteAnswer.Done entry stored due given written unwritten honest = tt
agrees_effect LoadAnswer.NotAsked (ProcessAnswer.Ended effect.Remove outcome) is_changed (WriteAnswer.Failed code) entry stored due given written unwritten honest = unwritten (sym (honest refl))
agrees_effect (LoadAnswer.Found value) (ProcessAnswer.Ended (effect.Set next) outcome) is_changed WriteAnswer.Done entry stored due given written unwritten honest = written (sym (honest refl))
agrees_effect (LoadAnswer.Found value) (ProcessAnswer.Ended (effect.Set next) outcome) is_changed (WriteAnswer.Failed code) entry stored due given written unwritten honest = unwritten (sym (honest refl))
agrees_effect (LoadAnswer.Found value) (ProcessAnswer.Ended effect.Remove outcome) is_changed WriteAnswer.Done entry stored due given written unwritten honest = tt
agrees_effect (LoadAnswer.Found value) (ProcessAnswer.Ended effect.Remove outcome) is_changed (WriteAnswer.Failed code) entry stored due given written unwritten honest = unwritten (sym (honest refl))
agrees_effect LoadAnswer.Nothing (ProcessAnswer.Ended (effect.Set next) outcome) is_changed WriteAnswer.Done entry stored due given written unwritten honest = written (sym (honest refl))
agrees_effect LoadAnswer.Nothing (ProcessAnswer.Ended (effect.Set next) outcome) is_changed (WriteAnswer.Failed code) entry stored due given written unwritten honest = unwritten (sym (honest refl))
agrees_effect LoadAnswer.Nothing (ProcessAnswer.Ended effect.Remove outcome) is_changed WriteAnswer.Done entry stored due given written unwritten honest = tt
agrees_effect LoadAnswer.Nothing (ProcessAnswer.Ended effect.Remove outcome) is_changed (WriteAnswer.Failed code) entry stored due given written unwritten honest = unwritten (sym (honest refl))
agrees_effect loaded process is_changed report entry stored due given written unwritten honest = cc

-- what a played processor did is given
pub run_given : (net : Effect) (returned : Result (Option Bytes) ℕ) → is_process_given (process_answer net returned) ≡ true
run_given net (Ok outcome) = refl
run_given net (Err code) = refl
