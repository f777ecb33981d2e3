-- The parts of events whose bytes decode to them again: their numbers and texts are within the limits of their types, which holds
-- for all that a program has. No contract of a public function cites this.
--     IsCode                a number fits four bytes
--     IsKeyText             a text is as long as a key may be
--     IsValueText           a text is as long as a value may be
--     IsEncodableOptional   there is nothing, or it can be encoded
--     IsEncodableCaller     the two numbers of a caller fit their bytes
--     IsEncodableOp         the values of an operation can be encoded
--     IsEncodableLoad       the value or the code of the loader can be encoded
--     IsEncodableWrite      the code of the writer can be encoded
--     IsEncodableEffect     the value that a processor sets can be encoded
--     IsEncodableProcess    the values or the code of a processor can be encoded
--     IsEncodableOut        all outside answers can be encoded
--     IsEncodableRefusal    the code of a refusal can be encoded
--     IsEncodableReply      the value or the refusal of a reply can be encoded
--     IsEncodableStep       all parts of a step can be encoded
--     IsEncodable           all parts of an event can be encoded
use Rattle.std.specs.Prelude.{ℕ, ◌<◌, ◌≤◌, ◌^◌, List, length, Option, None, Some}
use Rattle.std.specs.List.{AllByRecursion}
use Rattle.jc_types.specs.declared.caller.Caller.{Caller}
use Rattle.jc_types.specs.declared.refusal.Refusal.{Refusal}
use Rattle.jc_types.specs.declared.refusal.Refusal.TheVariants.{HistoryFull, Busy, TooManyInFlight, TooManyJoiners, LoaderFailed}
use Rattle.jc_types.specs.declared.refusal.Refusal.TheVariants.{WriterFailed, ProcessorFailed, OutOfMemory, TooManyKeys, BadConfig}
use Rattle.jc_types.specs.declared.refusal.Refusal.TheVariants.{NoLoader, NoWriter, TooManySessions, StillReserved, RepeatedKey}
use Rattle.jc_types.specs.declared.limits.TheConstants.{KEY_MAX, VALUE_MAX}
use Rattle.jc_model.specs.declared.event.Op.{Op}
use Rattle.jc_model.specs.declared.event.Out.{Out}
use Rattle.jc_model.specs.declared.event.LoadAnswer.{LoadAnswer}
use Rattle.jc_model.specs.declared.event.LoadAnswer.TheVariants as load
use Rattle.jc_model.specs.declared.event.WriteAnswer.{WriteAnswer}
use Rattle.jc_model.specs.declared.event.WriteAnswer.TheVariants as write
use Rattle.jc_model.specs.declared.event.ProcessAnswer.{ProcessAnswer}
use Rattle.jc_model.specs.declared.event.ProcessAnswer.TheVariants as process
use Rattle.jc_model.specs.declared.event.Effect.{Effect}
use Rattle.jc_model.specs.declared.event.Effect.TheVariants as effect
use Rattle.jc_model.specs.declared.event.Reply.{Reply}
use Rattle.jc_model.specs.declared.event.Reply.TheVariants as reply
use Rattle.jc_model.specs.Table.{op_values}
use Rattle.jc_model.specs.declared.event.Event.{Event}
use Rattle.jc_model.specs.declared.event.Event.TheVariants.{Step, Evict}

abbrev pub IsCode : ℕ → Type 0
IsCode code = code < 2 ^ 32

abbrev pub IsKeyText : List ℕ → Type 0
IsKeyText key = (0 < length key) × (length key ≤ KEY_MAX)

abbrev pub IsValueText : List ℕ → Type 0
IsValueText value = length value ≤ VALUE_MAX

abbrev pub IsEncodableOptional : {X : Type 0} → (X → Type 0) → Option X → Type 0
IsEncodableOptional is None = Unit {0}
IsEncodableOptional is (Some x) = is x

pub record IsEncodableCaller (caller : Caller) : Type 0 where
  pub session_is : IsCode caller.session
  pub call_is : caller.call < 2 ^ 64

abbrev pub IsEncodableOp : Op → Type 0
IsEncodableOp op = AllByRecursion IsValueText (op_values op)

abbrev pub IsEncodableLoad : LoadAnswer → Type 0
IsEncodableLoad load.NotAsked = Unit {0}
IsEncodableLoad (load.Found value) = IsValueText value
IsEncodableLoad load.Nothing = Unit {0}
IsEncodableLoad (load.Failed code) = IsCode code

abbrev pub IsEncodableWrite : WriteAnswer → Type 0
IsEncodableWrite write.NotAsked = Unit {0}
IsEncodableWrite write.Done = Unit {0}
IsEncodableWrite (write.Failed code) = IsCode code

abbrev pub IsEncodableEffect : Effect → Type 0
IsEncodableEffect effect.Keep = Unit {0}
IsEncodableEffect (effect.Set value) = IsValueText value
IsEncodableEffect effect.Remove = Unit {0}

abbrev pub IsEncodableProcess : ProcessAnswer → Type 0
IsEncodableProcess process.NotAsked = Unit {0}
IsEncodableProcess (process.Ended effect outcome) = IsEncodableEffect effect × IsEncodableOptional IsValueText outcome
IsEncodableProcess (process.Failed code) = IsCode code

pub record IsEncodableOut (out : Out) : Type 0 where
  pub load_is : IsEncodableLoad out.load
  pub write_is : IsEncodableWrite out.write
  pub process_is : IsEncodableProcess out.process

abbrev pub IsEncodableRefusal : Refusal → Type 0
IsEncodableRefusal HistoryFull = Unit {0}
IsEncodableRefusal Busy = Unit {0}
IsEncodableRefusal TooManyInFlight = Unit {0}
IsEncodableRefusal TooManyJoiners = Unit {0}
IsEncodableRefusal (LoaderFailed code) = IsCode code
IsEncodableRefusal (WriterFailed code) = IsCode code
IsEncodableRefusal (ProcessorFailed code) = IsCode code
IsEncodableRefusal OutOfMemory = Unit {0}
IsEncodableRefusal TooManyKeys = Unit {0}
IsEncodableRefusal (BadConfig field) = Unit {0}
IsEncodableRefusal NoLoader = Unit {0}
IsEncodableRefusal NoWriter = Unit {0}
IsEncodableRefusal TooManySessions = Unit {0}
IsEncodableRefusal StillReserved = Unit {0}
IsEncodableRefusal RepeatedKey = Unit {0}

abbrev pub IsEncodableReply : Reply → Type 0
IsEncodableReply reply.Unit = Unit {0}
IsEncodableReply (reply.Flag flag) = Unit {0}
IsEncodableReply (reply.Value value) = IsEncodableOptional IsValueText value
IsEncodableReply (reply.Fault refusal) = IsEncodableRefusal refusal

pub record IsEncodableStep (caller : Caller) (op : Op) (key : List ℕ) (out : Out) (shared_with : Option ℕ)
    (reply : Reply) : Type 0 where
  pub caller_is : IsEncodableCaller caller
  pub key_is : IsKeyText key
  pub op_is : IsEncodableOp op
  pub out_is : IsEncodableOut out
  pub shared_with_is : IsEncodableOptional IsCode shared_with
  pub reply_is : IsEncodableReply reply

abbrev pub IsEncodable : Event → Type 0
IsEncodable (Step caller op key out shared_with reply) = IsEncodableStep caller op key out shared_with reply
IsEncodable (Evict key cause) = IsKeyText key
