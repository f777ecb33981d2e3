-- The bytes that an event of a history is stored as: for each variant a byte, its tag, and then the variant's fields. No contract
-- of a public function cites this.
--     text_bytes        the length of a text in two bytes, and then the text
--     optional_bytes    0 if there is nothing, otherwise 1 and the bytes of the thing
--     caller_bytes      the bytes of a caller
--     values_bytes      the bytes of values, one after another
--     op_bytes          the bytes of an operation: its number and its values
--     load_bytes        the bytes of the loader's answer
--     write_bytes       the bytes of the writer's answer
--     effect_bytes      the bytes of a processor's effect on its entry
--     process_bytes     the bytes of a processor's answer
--     out_bytes         the bytes of all outside answers
--     refusal_bytes     the bytes of a refusal
--     reply_bytes       the bytes of a reply to a step with these outside answers: a value that it repeats isn't stored again
--     event_bytes       the bytes of an event; a step begins with the outside answers and the reply
use Rattle.std.specs.Prelude.{ℕ, true, false, List, [], ◌∷◌, ◌++◌, length, Option, None, Some, if◌then◌else◌}
use Rattle.std.specs.Int.{w16, w32, w64, to_le_bytes}
use Rattle.jc_types.specs.declared.caller.Caller.{Caller}
use Rattle.jc_types.specs.declared.refusal.Refusal.{Refusal}
use Rattle.jc_types.specs.declared.refusal.Refusal.TheVariants.{HistoryFull, Busy, TooManyInFlight, TooManyJoiners, LoaderFailed}
use Rattle.jc_types.specs.declared.refusal.Refusal.TheVariants.{WriterFailed, ProcessorFailed, OutOfMemory, TooManyKeys, BadConfig}
use Rattle.jc_types.specs.declared.refusal.Refusal.TheVariants.{NoLoader, NoWriter, TooManySessions, StillReserved, RepeatedKey}
use Rattle.jc_types.specs.declared.config.Field.TheVariants.{Stripes, Capacity, History}
use Rattle.jc_model.specs.declared.event.Op.{Op}
use Rattle.jc_model.specs.declared.event.LoadAnswer.{LoadAnswer}
use Rattle.jc_model.specs.declared.event.LoadAnswer.TheVariants as load
use Rattle.jc_model.specs.declared.event.WriteAnswer.{WriteAnswer}
use Rattle.jc_model.specs.declared.event.WriteAnswer.TheVariants as write
use Rattle.jc_model.specs.declared.event.ProcessAnswer.{ProcessAnswer}
use Rattle.jc_model.specs.declared.event.ProcessAnswer.TheVariants as process
use Rattle.jc_model.specs.declared.event.Effect.{Effect}
use Rattle.jc_model.specs.declared.event.Effect.TheVariants as effect
use Rattle.jc_model.specs.declared.event.Out.{Out}
use Rattle.jc_model.specs.declared.event.Reply.{Reply}
use Rattle.jc_model.specs.declared.event.Reply.TheVariants as reply
use Rattle.jc_model.specs.declared.event.Cause.TheVariants.{Full, Memory, Invalidated}
use Rattle.jc_model.specs.declared.event.Event.{Event}
use Rattle.jc_model.specs.declared.event.Event.TheVariants.{Step, Evict}
use Rattle.jc_model.specs.Table.{op_number, op_values}
use Rattle.jc_history.specs.Values.{repeats_outside}

-- the length of a text in two bytes, and then the text
abbrev pub text_bytes : List ℕ → List ℕ
text_bytes text = to_le_bytes w16 (length text) ++ text

-- 0 if there is nothing, otherwise 1 and the bytes of the thing
abbrev pub optional_bytes : {X : Type 0} → (X → List ℕ) → Option X → List ℕ
optional_bytes bytes None = 0 ∷ []
optional_bytes bytes (Some x) = 1 ∷ bytes x

abbrev pub caller_bytes : Caller → List ℕ
caller_bytes caller = to_le_bytes w32 caller.session ++ to_le_bytes w64 caller.call

-- values, one after another
abbrev pub values_bytes : List (List ℕ) → List ℕ
values_bytes [] = []
values_bytes (value ∷ values) = text_bytes value ++ values_bytes values

abbrev pub op_bytes : Op → List ℕ
op_bytes op = op_number op ∷ values_bytes (op_values op)

abbrev pub load_bytes : LoadAnswer → List ℕ
load_bytes load.NotAsked = 0 ∷ []
load_bytes (load.Found value) = 1 ∷ text_bytes value
load_bytes load.Nothing = 2 ∷ []
load_bytes (load.Failed code) = 3 ∷ to_le_bytes w32 code

abbrev pub write_bytes : WriteAnswer → List ℕ
write_bytes write.NotAsked = 0 ∷ []
write_bytes write.Done = 1 ∷ []
write_bytes (write.Failed code) = 2 ∷ to_le_bytes w32 code

abbrev pub effect_bytes : Effect → List ℕ
effect_bytes effect.Keep = 0 ∷ []
effect_bytes (effect.Set value) = 1 ∷ text_bytes value
effect_bytes effect.Remove = 2 ∷ []

abbrev pub process_bytes : ProcessAnswer → List ℕ
process_bytes process.NotAsked = 0 ∷ []
process_bytes (process.Ended effect outcome) = 1 ∷ (effect_bytes effect ++ optional_bytes text_bytes outcome)
process_bytes (process.Failed code) = 2 ∷ to_le_bytes w32 code

abbrev pub out_bytes : Out → List ℕ
out_bytes out = load_bytes out.load ++ (write_bytes out.write ++ process_bytes out.process)

abbrev pub refusal_bytes : Refusal → List ℕ
refusal_bytes HistoryFull = 0 ∷ []
refusal_bytes Busy = 1 ∷ []
refusal_bytes TooManyInFlight = 2 ∷ []
refusal_bytes TooManyJoiners = 3 ∷ []
refusal_bytes (LoaderFailed code) = 4 ∷ to_le_bytes w32 code
refusal_bytes (WriterFailed code) = 5 ∷ to_le_bytes w32 code
refusal_bytes (ProcessorFailed code) = 6 ∷ to_le_bytes w32 code
refusal_bytes OutOfMemory = 7 ∷ []
refusal_bytes TooManyKeys = 8 ∷ []
refusal_bytes (BadConfig Stripes) = 9 ∷ []
refusal_bytes (BadConfig Capacity) = 10 ∷ []
refusal_bytes (BadConfig History) = 11 ∷ []
refusal_bytes NoLoader = 12 ∷ []
refusal_bytes NoWriter = 13 ∷ []
refusal_bytes TooManySessions = 14 ∷ []
refusal_bytes StillReserved = 15 ∷ []
refusal_bytes RepeatedKey = 16 ∷ []

-- a value that came from outside is in the event already
abbrev pub reply_bytes : Out → Reply → List ℕ
reply_bytes out reply.Unit = 0 ∷ []
reply_bytes out (reply.Flag false) = 1 ∷ []
reply_bytes out (reply.Flag true) = 2 ∷ []
reply_bytes out (reply.Value None) = 3 ∷ []
reply_bytes out (reply.Value (Some value)) = if repeats_outside out value then 6 ∷ [] else (4 ∷ text_bytes value)
reply_bytes out (reply.Fault refusal) = 5 ∷ refusal_bytes refusal

abbrev pub event_bytes : Event → List ℕ
event_bytes (Step caller op key out shared_with reply) =
    0 ∷ (out_bytes out ++ (reply_bytes out reply ++ (caller_bytes caller ++ (text_bytes key ++ (op_bytes op
    ++ optional_bytes (to_le_bytes w32) shared_with)))))
event_bytes (Evict key Full) = 1 ∷ text_bytes key
event_bytes (Evict key Memory) = 2 ∷ text_bytes key
event_bytes (Evict key Invalidated) = 3 ∷ text_bytes key
