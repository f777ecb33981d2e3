-- How the events of a history are read back: decoders of bytes. Each reads from the beginning, and gives the thing and the bytes
-- after it. It also gives something if the bytes are no encoding. No contract of a public function cites this.
--     Decoder            a decoder of an X: it gives the X and the bytes after it
--     ◌>>=◌              one decoder, and then the one that follows from what the first gave
--     give               the decoder that reads nothing and gives this
--     byte               one byte
--     number_2           a number of two bytes, the lowest first
--     number_4           a number of four bytes, the lowest first
--     number_8           a number of eight bytes, the lowest first
--     decode_text        a text of at most this length
--     decode_value       a value
--     decode_key         a key
--     with_value         a value, and a thing made from it
--     with_code          a number of four bytes, and a thing made from it
--     decode_optional    nothing after 0, otherwise the thing
--     decode_caller      a caller
--     decode_op          an operation
--     decode_load        an answer of the loader
--     decode_write       an answer of the writer
--     decode_effect      an effect of a processor
--     decode_process     an answer of a processor
--     decode_out         all outside answers
--     decode_refusal     a refusal
--     decode_reply       a reply, after these outside answers
--     decode_step        a step, after its tag
--     decode_event       an event
use Rattle.std.specs.Prelude.{ℕ, ◌==◌, ◌&&◌, nat_le, true, false, List, [], ◌∷◌, length, take, drop, Option, None, Some}
use Rattle.std.specs.Prelude.{if◌then◌else◌}
use Rattle.std.specs.Int.{w16, w32, w64, from_le_bytes}
use Rattle.jc_types.specs.declared.caller.Caller.{Caller}
use Rattle.jc_types.specs.declared.refusal.Refusal.{Refusal}
use Rattle.jc_types.specs.declared.refusal.Refusal.TheVariants.{HistoryFull, Busy, TooManyInFlight, TooManyJoiners, LoaderFailed}
use Rattle.jc_types.specs.declared.refusal.Refusal.TheVariants.{WriterFailed, ProcessorFailed, OutOfMemory, TooManyKeys, BadConfig}
use Rattle.jc_types.specs.declared.refusal.Refusal.TheVariants.{NoLoader, NoWriter, TooManySessions, StillReserved, RepeatedKey}
use Rattle.jc_types.specs.declared.config.Field.TheVariants.{Stripes, Capacity, History}
use Rattle.jc_types.specs.declared.limits.TheConstants.{KEY_MAX, VALUE_MAX}
use Rattle.jc_model.specs.declared.event.Op.{Op}
use Rattle.jc_model.specs.declared.event.LoadAnswer.{LoadAnswer}
use Rattle.jc_model.specs.declared.event.LoadAnswer.TheVariants as load
use Rattle.jc_model.specs.declared.event.WriteAnswer.{WriteAnswer}
use Rattle.jc_model.specs.declared.event.WriteAnswer.TheVariants as write
use Rattle.jc_model.specs.declared.event.ProcessAnswer.{ProcessAnswer}
use Rattle.jc_model.specs.declared.event.ProcessAnswer.TheVariants as process
use Rattle.jc_model.specs.declared.event.Effect.{Effect}
use Rattle.jc_model.specs.declared.event.Effect.TheVariants as effect
use Rattle.jc_model.specs.declared.event.Out.{Out}
use Rattle.jc_model.specs.declared.event.Reply.{Reply}
use Rattle.jc_model.specs.declared.event.Reply.TheVariants as reply
use Rattle.jc_model.specs.declared.event.Cause.TheVariants.{Full, Memory, Invalidated}
use Rattle.jc_model.specs.declared.event.Event.{Event}
use Rattle.jc_model.specs.declared.event.Event.TheVariants.{Step, Evict}
use Rattle.jc_model.specs.Table.{value_count, numbered_op}
use Rattle.jc_history.specs.Values.{value_from_outside}

-- a decoder of an X: it gives the X and the bytes after it
abbrev pub Decoder : Type 0 → Type 0
Decoder X = List ℕ → X × List ℕ

infixl 10 ◌>>=◌
abbrev pub ◌>>=◌ : {X Y : Type 0} → Decoder X → (X → Decoder Y) → Decoder Y
(decode >>= next) bytes = next (decode bytes).0 (decode bytes).1

abbrev pub give : {X : Type 0} → X → Decoder X
give x bytes = (x, bytes)

unfoldable pub byte : Decoder ℕ
byte [] = (0, [])
byte (n ∷ rest) = (n, rest)

unfoldable pub number_2 : Decoder ℕ
number_2 (a ∷ b ∷ rest) = (from_le_bytes w16 (a ∷ b ∷ []), rest)
number_2 bytes = (0, [])

unfoldable pub number_4 : Decoder ℕ
number_4 (a ∷ b ∷ c ∷ d ∷ rest) = (from_le_bytes w32 (a ∷ b ∷ c ∷ d ∷ []), rest)
number_4 bytes = (0, [])

unfoldable pub number_8 : Decoder ℕ
number_8 (a ∷ b ∷ c ∷ d ∷ e ∷ f ∷ g ∷ h ∷ rest) = (from_le_bytes w64 (a ∷ b ∷ c ∷ d ∷ e ∷ f ∷ g ∷ h ∷ []), rest)
number_8 bytes = (0, [])

-- a text of at most this length
unfoldable pub decode_text : ℕ → Decoder (List ℕ)
decode_text most = do
  n ← number_2
  λ rest. if nat_le n most && nat_le n (length rest) then (take n rest, drop n rest) else ([], rest)

unfoldable pub decode_value : Decoder (List ℕ)
decode_value = decode_text VALUE_MAX

-- a key is never empty
unfoldable pub decode_key : Decoder (List ℕ)
decode_key = do
  text ← decode_text KEY_MAX
  give (if length text == 0 then 0 ∷ [] else text)

abbrev pub with_value : {X : Type 0} → (List ℕ → X) → Decoder X
with_value f = do
  value ← decode_value
  give (f value)

abbrev pub with_code : {X : Type 0} → (ℕ → X) → Decoder X
with_code f = do
  code ← number_4
  give (f code)

unfoldable pub decode_optional : {X : Type 0} → Decoder X → Decoder (Option X)
decode_optional decode = do
  tag ← byte
  if tag == 0 then give None else (decode >>= λ x. give (Some x))

unfoldable pub decode_caller : Decoder Caller
decode_caller = do
  session ← number_4
  call ← number_8
  give (record { session = session; call = call })

unfoldable pub decode_op : Decoder Op
decode_op = do
  number ← byte
  if value_count number == 0 then give (numbered_op number [] [])
      else if value_count number == 1 then with_value (λ value. numbered_op number value [])
      else (decode_value >>= λ first. with_value (numbered_op number first))

unfoldable pub decode_load : Decoder LoadAnswer
decode_load = do
  tag ← byte
  if tag == 0 then give load.NotAsked
      else if tag == 1 then with_value load.Found
      else if tag == 2 then give load.Nothing
      else with_code load.Failed

unfoldable pub decode_write : Decoder WriteAnswer
decode_write = do
  tag ← byte
  if tag == 0 then give write.NotAsked
      else if tag == 1 then give write.Done
      else with_code write.Failed

unfoldable pub decode_effect : Decoder Effect
decode_effect = do
  tag ← byte
  if tag == 0 then give effect.Keep
      else if tag == 1 then with_value effect.Set
      else give effect.Remove

unfoldable pub decode_process : Decoder ProcessAnswer
decode_process = do
  tag ← byte
  if tag == 0 then give process.NotAsked
      else if tag == 1
      then (decode_effect >>= λ done. decode_optional decode_value >>= λ outcome. give (process.Ended done outcome))
      else with_code process.Failed

unfoldable pub decode_out : Decoder Out
decode_out = do
  load ← decode_load
  write ← decode_write
  process ← decode_process
  give (record { load = load; write = write; process = process })

unfoldable pub decode_refusal : Decoder Refusal
decode_refusal = do
  tag ← byte
  if tag == 0 then give HistoryFull
      else if tag == 1 then give Busy
      else if tag == 2 then give TooManyInFlight
      else if tag == 3 then give TooManyJoiners
      else if tag == 4 then with_code LoaderFailed
      else if tag == 5 then with_code WriterFailed
      else if tag == 6 then with_code ProcessorFailed
      else if tag == 7 then give OutOfMemory
      else if tag == 8 then give TooManyKeys
      else if tag == 9 then give (BadConfig Stripes)
      else if tag == 10 then give (BadConfig Capacity)
      else if tag == 11 then give (BadConfig History)
      else if tag == 12 then give NoLoader
      else if tag == 13 then give NoWriter
      else if tag == 14 then give TooManySessions
      else if tag == 15 then give StillReserved
      else give RepeatedKey

unfoldable pub decode_reply : Out → Decoder Reply
decode_reply out = do
  tag ← byte
  if tag == 0 then give reply.Unit
      else if tag == 1 then give (reply.Flag false)
      else if tag == 2 then give (reply.Flag true)
      else if tag == 3 then give (reply.Value None)
      else if tag == 4 then with_value (λ value. reply.Value (Some value))
      else if tag == 5 then (decode_refusal >>= λ refusal. give (reply.Fault refusal))
      else give (reply.Value (value_from_outside out))

unfoldable pub decode_step : Decoder Event
decode_step = do
  out ← decode_out
  answer ← decode_reply out
  caller ← decode_caller
  key ← decode_key
  op ← decode_op
  shared_with ← decode_optional number_4
  give (Step caller op key out shared_with answer)

unfoldable pub decode_event : Decoder Event
decode_event = do
  tag ← byte
  if tag == 0 then decode_step
      else if tag == 1 then (decode_key >>= λ key. give (Evict key Full))
      else if tag == 2 then (decode_key >>= λ key. give (Evict key Memory))
      else (decode_key >>= λ key. give (Evict key Invalidated))
