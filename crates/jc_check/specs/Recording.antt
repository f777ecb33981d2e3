-- What a recorder writes of a history at one key, and the rules that judge the cache alone.
--     AreTableRules        the rules judge the cache alone, by the order of each thread, and an entry may vanish at any time
--     is_at                an event is at a key
--     IsStepAt             an event, if there is one, is a step at a key
--     entry_left           the entry that an event leaves at its key; a step that shares a load leaves it as it was
--     entry_after_event    the entry at a key after one more event
--     entry_before         the entry at a key before the event at a place, from what the key had at first
--     change_of_entry      the change of the store that goes with an entry
--     asked_change         what the writer was asked for, if it answered: to store what the operation leaves if it mutates
--     IsRun                a processor's calls on its entry, the answers to them, and what its step has of its loader and of
--                          itself, are one run of a processor
--     HasRun               the same of an operation that runs a processor; another one has none
--     IsCallOf             a recorded call is that of a step that found this entry: the session is the thread, the recorder's clock
--                          tells when the call with its number began, and it has the step's reply, or none if it hasn't ended. When
--                          it ended doesn't matter
--     removal_out          the outside answers of a removal, as those of a processor that removes its entry
--     IsRemovalOf          a recorded call is that of a removal, as a processor that removes its entry: so a record has the keys of
--                          a `removeAll`, since that doesn't answer which of them were there
--     TellsEvent           a recorded call is that of the step that an event is: who shares a load has asked nobody itself
--     Tells                the same of an event and a recorded call, if both are there
--     IsRecordOf           a record has the calls of a history at one key: each step at the key has a call of its own, each call
--                          that has ended is that of a step, and the recorder's clock doesn't run backwards while a session makes
--                          its calls. In which order the calls are listed doesn't matter, and the record says nothing of evictions
--     keeps_entry          a processor has no effect on its entry
--     heeds_failed_load    if the load of a step failed, its processor has no effect, if it ran one
use Rattle.std.specs.Prelude.{◌≡◌, ◌==◌, ◌≤◌, ◌⊎◌, ℕ, List, map, take, Bool, true, false, ◌||◌, Option, None, Some, is_none}
use Rattle.std.specs.Prelude.{option_map, Result, slice_get, if◌then◌else◌}
use Rattle.std.specs.Cmp.Lexicographic.{pointwise}
use Rattle.std.specs.List.{fold}
use Rattle.jc_types.specs.declared.caller.Caller.{Caller}
use Rattle.jc_types.specs.declared.config.Config.{Config}
use Rattle.jc_model.specs.declared.event.Change.{Change}
use Rattle.jc_model.specs.declared.event.Change.TheVariants.{Write, Delete}
use Rattle.jc_model.specs.declared.event.Effect.TheVariants as effect
use Rattle.jc_model.specs.declared.event.Event.{Event}
use Rattle.jc_model.specs.declared.event.Event.TheVariants.{Step, Evict}
use Rattle.jc_model.specs.declared.event.Op.{Op}
use Rattle.jc_model.specs.declared.event.Op.TheVariants.{Invoke, Remove}
use Rattle.jc_model.specs.declared.event.Out.{Out}
use Rattle.jc_model.specs.declared.event.ProcessAnswer.{ProcessAnswer}
use Rattle.jc_model.specs.declared.event.ProcessAnswer.TheVariants as process
use Rattle.jc_model.specs.declared.event.Reply.{Reply}
use Rattle.jc_model.specs.Cache.{Bytes}
use Rattle.jc_model.specs.Group.{nothing_said}
use Rattle.jc_model.specs.Legal.{event_key}
use Rattle.jc_model.specs.Processor.{all_answers, failed_in, net_effect, process_answer, uses_load}
use Rattle.jc_model.specs.Table.{entry_after, is_invoke, is_load_given, is_write_given, reply_after}
use Rattle.jc_check.specs.declared.record.EntrySight.{EntrySight}
use Rattle.jc_check.specs.declared.record.Recorded.{Recorded}
use Rattle.jc_check.specs.declared.record.Role.TheVariants as role
use Rattle.jc_check.specs.declared.record.Rules.{Rules}
use Rattle.jc_check.specs.Explains.{entry_of_op, must_be_placed}
use Rattle.jc_check.specs.Spot.{FitsReply, calls_of}

-- 1. The rules.

-- `--rules table --order program --evict free`, with the loader and the writer that the cache has
pub record AreTableRules (config : Config) (rules : Rules) : Type 0 where
  pub read : rules.config.read_through ≡ config.read_through
  pub write : rules.config.write_through ≡ config.write_through
  pub table : rules.is_store_known ≡ false
  pub program : rules.is_real ≡ false
  pub vanish : rules.may_vanish ≡ true

-- 2. The entry that a step finds.

abbrev pub is_at : Bytes → Event → Bool
is_at key event = pointwise ◌==◌ (event_key event) key

abbrev pub IsStepAt : Bytes → Option Event → Type 0
IsStepAt key None = ⊥
IsStepAt key (Some (Evict other cause)) = ⊥
IsStepAt key (Some (Step caller op other out shared reply)) = other ≡ key

abbrev pub entry_left : Option Bytes → Event → Option Bytes
entry_left entry (Step caller op key out None reply) = entry_after op entry out
entry_left entry (Step caller op key out (Some place) reply) = entry
entry_left entry (Evict key cause) = None

abbrev pub entry_after_event : Bytes → Option Bytes → Event → Option Bytes
entry_after_event key entry event = if is_at key event then entry_left entry event else entry

abbrev pub entry_before : Bytes → Option Bytes → List Event → ℕ → Option Bytes
entry_before key entry events place = fold (entry_after_event key) entry (take place events)

-- 3. What is recorded of a step.

abbrev pub change_of_entry : Option Bytes → Change
change_of_entry None = Delete
change_of_entry (Some value) = Write value

abbrev pub asked_change : Op → Out → Option Change
asked_change op out = if is_write_given out.write then option_map change_of_entry (entry_of_op op out.process) else None

-- a history has a processor's effect and answer alone, and its calls only what the recorder has seen
pub record IsRun (read_through : Bool) (entry : Option Bytes) (sights : List EntrySight) (out : Out) : Type 0 where
  pub answers : map (λ s. s.answer) sights ≡ all_answers read_through entry out.load (calls_of sights)
  pub load : is_load_given out.load ≡ uses_load read_through entry (calls_of sights)
  pub returned : Result (Option Bytes) ℕ
  pub process : out.process ≡ process_answer (net_effect read_through entry out.load (calls_of sights)) returned

abbrev pub HasRun : Bool → Bool → Option Bytes → List EntrySight → Out → Type 0
HasRun false read_through entry sights out = Unit {0}
HasRun true read_through entry sights out = IsRun read_through entry sights out

pub record IsCallOf (clock : ℕ → ℕ → ℕ) (read_through : Bool) (entry : Option Bytes) (caller : Caller) (op : Op) (out : Out)
    (reply : Reply) (c : Recorded) : Type 0 where
  pub role : c.role ≡ role.Call
  pub thread : c.thread ≡ caller.session
  pub began : c.began ≡ clock caller.session caller.call
  pub op_is : c.op ≡ op
  pub out_is : c.out ≡ out
  pub change : c.change ≡ asked_change op out
  pub run : HasRun (is_invoke op) read_through entry c.sights.items out
  pub reply_is : FitsReply c.reply reply

abbrev pub removal_out : Out → Out
removal_out out = record { load = out.load; write = out.write; process = process.Ended effect.Remove None }

pub record IsRemovalOf (clock : ℕ → ℕ → ℕ) (read_through : Bool) (entry : Option Bytes) (caller : Caller) (op : Op) (out : Out)
    (c : Recorded) : Type 0 where
  pub removes : op ≡ Remove
  pub call : IsCallOf clock read_through entry caller Invoke (removal_out out) (reply_after Invoke None (removal_out out)) c

abbrev pub TellsEvent : (ℕ → ℕ → ℕ) → Bool → Option Bytes → Event → Recorded → Type 0
TellsEvent clock read_through entry (Step caller op key out None reply) c =
    IsCallOf clock read_through entry caller op out reply c ⊎ IsRemovalOf clock read_through entry caller op out c
TellsEvent clock read_through entry (Step caller op key out (Some place) reply) c =
    IsCallOf clock read_through entry caller op nothing_said reply c
TellsEvent clock read_through entry (Evict key cause) c = ⊥

abbrev pub Tells : (ℕ → ℕ → ℕ) → Bool → Option Bytes → Option Event → Option Recorded → Type 0
Tells clock read_through entry None c = ⊥
Tells clock read_through entry (Some event) None = ⊥
Tells clock read_through entry (Some event) (Some c) = TellsEvent clock read_through entry event c

-- 4. The record. `entry` is what the key has at first.

pub record IsRecordOf (config : Config) (key : Bytes) (entry : Option Bytes) (events : List Event)
    (calls : List Recorded) : Type 0 where
  pub clock : ℕ → ℕ → ℕ  -- the time at which a session's call with a number begins
  pub forward : (session m n : ℕ) → m ≤ n → clock session m ≤ clock session n
  pub call : ℕ → ℕ  -- which call has the step at a place
  pub place : ℕ → ℕ  -- the place of the step that a call has
  pub tells : (p : ℕ) → IsStepAt key (slice_get events p)
      → Tells clock config.read_through (entry_before key entry events p) (slice_get events p) (slice_get calls (call p))
  pub own : (p : ℕ) → IsStepAt key (slice_get events p) → place (call p) ≡ p
  pub steps : (i : ℕ) (c : Recorded) → slice_get calls i ≡ Some c → must_be_placed c ≡ true
      → IsStepAt key (slice_get events (place i))
  pub inside : (i : ℕ) (c : Recorded) → slice_get calls i ≡ Some c → must_be_placed c ≡ true → call (place i) ≡ i

-- 5. After a failed load.

abbrev pub keeps_entry : ProcessAnswer → Bool
keeps_entry process.NotAsked = true
keeps_entry (process.Failed code) = true
keeps_entry (process.Ended effect.Keep outcome) = true
keeps_entry (process.Ended (effect.Set value) outcome) = false
keeps_entry (process.Ended effect.Remove outcome) = false

-- a history is also legal if that isn't so; no run of a processor is like that
abbrev pub heeds_failed_load : Event → Bool
heeds_failed_load (Step caller op key out shared reply) = is_none (failed_in out.load) || keeps_entry out.process
heeds_failed_load (Evict key cause) = true
