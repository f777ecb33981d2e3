-- An encoding decodes to what was encoded, whatever follows it.
use Rattle.std.proofs.Common.{◌≡◌, ℕ, ◌<◌, ◌≤◌, ◌^◌, true, false, List, [], ◌∷◌, ◌++◌, length, leb, Bool, cond, Option, Some, None, refl, sym, ap, ◌∙◌, append_assoc, arith}
use Rattle.std.specs.Int.{w16, w32, w64, to_le_bytes}
use Rattle.std.proofs.Math.Dec.{eqb-suc-zero}
use Rattle.std.specs.List.{AllByRecursion}
use Rattle.std.specs.Cmp.Lexicographic.{same_text}
use Rattle.std.proofs.lemmas.Bool.{le-leb}
use Rattle.std.proofs.lemmas.List.{take_at, drop_at, length-append}
use Rattle.std.proofs.lemmas.Nat.{from_le_bytes-to_le_bytes_2, from_le_bytes-to_le_bytes_4, from_le_bytes-to_le_bytes_8}
use Rattle.jc_types.specs.declared.caller.Caller.{Caller}
use Rattle.jc_types.specs.declared.refusal.Refusal.{Refusal}
use Rattle.jc_types.specs.declared.refusal.Refusal.TheVariants.{HistoryFull, Busy, TooManyInFlight, TooManyJoiners, LoaderFailed, WriterFailed, ProcessorFailed, OutOfMemory, TooManyKeys, BadConfig, NoLoader, NoWriter, TooManySessions, StillReserved, RepeatedKey}
use Rattle.jc_types.specs.declared.config.Field.TheVariants.{Stripes, Capacity, History}
use Rattle.jc_types.specs.declared.limits.TheConstants.{KEY_MAX, VALUE_MAX}
use Rattle.jc_model.specs.declared.event.Op.{Op}
use Rattle.jc_model.specs.declared.event.LoadAnswer.{LoadAnswer}
use Rattle.jc_model.specs.declared.event.LoadAnswer.TheVariants as load
use Rattle.jc_model.specs.declared.event.WriteAnswer.{WriteAnswer}
use Rattle.jc_model.specs.declared.event.WriteAnswer.TheVariants as write
use Rattle.jc_model.specs.declared.event.ProcessAnswer.{ProcessAnswer}
use Rattle.jc_model.specs.declared.event.ProcessAnswer.TheVariants as process
use Rattle.jc_model.specs.declared.event.Effect.{Effect}
use Rattle.jc_model.specs.declared.event.Effect.TheVariants as effect
use Rattle.jc_model.specs.declared.event.Out.{Out}
use Rattle.jc_model.specs.declared.event.Reply.{Reply}
use Rattle.jc_model.specs.declared.event.Reply.TheVariants as reply
use Rattle.jc_model.specs.declared.event.Cause.TheVariants.{Full, Memory, Invalidated}
use Rattle.jc_model.specs.declared.event.Event.{Event}
use Rattle.jc_model.specs.declared.event.Event.TheVariants.{Step, Evict}
use Rattle.jc_model.specs.Cache.{Bytes}
use Rattle.jc_model.specs.Table.{holds, op_number, op_values, value_count, numbered_op}
use Rattle.jc_model.proofs.CallerLemmas.{AreFirst, is_numbered, numbered}
use Rattle.jc_history.specs.Values.{value_from_outside, repeats_outside}
use Rattle.jc_history.specs.Encoding.{text_bytes, optional_bytes, caller_bytes, values_bytes, op_bytes, load_bytes, write_bytes, effect_bytes, process_bytes, out_bytes, refusal_bytes, reply_bytes, event_bytes}
use Rattle.jc_history.specs.Encodable.{IsCode, IsKeyText, IsValueText, IsEncodableOptional, IsEncodableCaller, IsEncodableOp, IsEncodableLoad, IsEncodableWrite, IsEncodableEffect, IsEncodableProcess, IsEncodableOut, IsEncodableRefusal, IsEncodableReply, IsEncodable}
use Rattle.jc_history.specs.Decoding.{Decoder, byte, number_2, number_4, number_8, decode_text, decode_value, decode_key, decode_optional, decode_caller, decode_op, decode_load, decode_write, decode_effect, decode_process, decode_out, decode_refusal, decode_reply, decode_step, decode_event}

number_2-to_le_bytes : (n : ℕ) (rest : List ℕ) → n < 2 ^ 16 → number_2 (to_le_bytes w16 n ++ rest) ≡ (n, rest)
unfolding number_2
number_2-to_le_bytes n rest h = ap (λ (m : ℕ). (m, rest)) (from_le_bytes-to_le_bytes_2 n h)

number_4-to_le_bytes : (n : ℕ) (rest : List ℕ) → IsCode n → number_4 (to_le_bytes w32 n ++ rest) ≡ (n, rest)
unfolding number_4
number_4-to_le_bytes n rest h = ap (λ (m : ℕ). (m, rest)) (from_le_bytes-to_le_bytes_4 n h)

number_8-to_le_bytes : (n : ℕ) (rest : List ℕ) → n < 2 ^ 64 → number_8 (to_le_bytes w64 n ++ rest) ≡ (n, rest)
unfolding number_8
number_8-to_le_bytes n rest h = ap (λ (m : ℕ). (m, rest)) (from_le_bytes-to_le_bytes_8 n h)

decode_text-text_bytes : (most : ℕ) (text rest : List ℕ) → length text ≤ most → length text < 2 ^ 16 → decode_text most (text_bytes text ++ rest) ≡ (text, rest)
unfolding decode_text
decode_text-text_bytes most text rest h k =
    let short : leb (length text) most ≡ true = le-leb _ _ h in
    let within : leb (length text) (length (text ++ rest)) ≡ true = le-leb _ _ (omega (arith, length-append text rest)) in
    rw (number_2-to_le_bytes (length text) (text ++ rest) k, short, within, take_at text rest (length text) refl, drop_at text rest (length text) refl) refl

decode_value-text_bytes : (value rest : List ℕ) → IsValueText value → decode_value (text_bytes value ++ rest) ≡ (value, rest)
unfolding decode_value
decode_value-text_bytes value rest h = decode_text-text_bytes VALUE_MAX value rest h (omega arith)

decode_key-text_bytes : (key rest : List ℕ) → IsKeyText key → decode_key (text_bytes key ++ rest) ≡ (key, rest)
unfolding decode_key
decode_key-text_bytes [] rest h = absurd (omega arith)
decode_key-text_bytes (b ∷ key) rest h = rw (decode_text-text_bytes KEY_MAX (b ∷ key) rest h.1 (omega arith), eqb-suc-zero (length key)) refl

decode_optional-optional_bytes : {X : Type 0} (bytes : X → List ℕ) (decode : Decoder X) (is : X → Type 0)
    → ((x : X) (rest : List ℕ) → is x → decode (bytes x ++ rest) ≡ (x, rest))
    → (found : Option X) (rest : List ℕ) → IsEncodableOptional is found → decode_optional decode (optional_bytes bytes found ++ rest) ≡ (found, rest)
unfolding decode_optional byte
decode_optional-optional_bytes bytes decode is again None rest h = refl
decode_optional-optional_bytes bytes decode is again (Some x) rest h = rw (again x rest h) refl

decode_caller-caller_bytes : (caller : Caller) (rest : List ℕ) → IsEncodableCaller caller → decode_caller (caller_bytes caller ++ rest) ≡ (caller, rest)
unfolding decode_caller
decode_caller-caller_bytes caller rest h =
    rw (number_4-to_le_bytes caller.session (to_le_bytes w64 caller.call ++ rest) h.session_is, number_8-to_le_bytes caller.call rest h.call_is) refl

two_parts : (a b rest : List ℕ) → (a ++ (b ++ [])) ++ rest ≡ a ++ (b ++ rest)
two_parts a b rest = append_assoc a (b ++ []) rest ∙ ap (λ (l : List ℕ). a ++ l) (append_assoc b [] rest)

-- an operation by its number and its values
decode_numbered : (number : ℕ) (values : List Bytes) (op : Op) (rest : List ℕ) → value_count number ≡ length values → length values ≤ 2
    → ((first second : Bytes) → AreFirst values first second → numbered_op number first second ≡ op) → AllByRecursion IsValueText values
    → decode_op (number ∷ (values_bytes values ++ rest)) ≡ (op, rest)
unfolding decode_op byte
decode_numbered number [] op rest count few same h = rw count (ap (λ (o : Op). (o, rest)) (same [] [] tt))
decode_numbered number (value ∷ []) op rest count few same h =
    rw (count, append_assoc (text_bytes value) [] rest, decode_value-text_bytes value rest h.0) (ap (λ (o : Op). (o, rest)) (same value [] refl))
decode_numbered number (first ∷ second ∷ []) op rest count few same h =
    rw (count, two_parts (text_bytes first) (text_bytes second) rest, decode_value-text_bytes first (text_bytes second ++ rest) h.0, decode_value-text_bytes second rest h.1.0) (ap (λ (o : Op). (o, rest)) (same first second (refl, refl)))
decode_numbered number (first ∷ second ∷ third ∷ values) op rest count few same h = absurd (omega arith)

decode_op-op_bytes : (op : Op) (rest : List ℕ) → IsEncodableOp op → decode_op (op_bytes op ++ rest) ≡ (op, rest)
decode_op-op_bytes op rest h = decode_numbered (op_number op) (op_values op) op rest (is_numbered op).count (is_numbered op).few (numbered op) h

decode_load-load_bytes : (answer : LoadAnswer) (rest : List ℕ) → IsEncodableLoad answer → decode_load (load_bytes answer ++ rest) ≡ (answer, rest)
unfolding decode_load byte
decode_load-load_bytes load.NotAsked rest h = refl
decode_load-load_bytes (load.Found value) rest h = rw (decode_value-text_bytes value rest h) refl
decode_load-load_bytes load.Nothing rest h = refl
decode_load-load_bytes (load.Failed code) rest h = rw (number_4-to_le_bytes code rest h) refl

decode_write-write_bytes : (answer : WriteAnswer) (rest : List ℕ) → IsEncodableWrite answer → decode_write (write_bytes answer ++ rest) ≡ (answer, rest)
unfolding decode_write byte
decode_write-write_bytes write.NotAsked rest h = refl
decode_write-write_bytes write.Done rest h = refl
decode_write-write_bytes (write.Failed code) rest h = rw (number_4-to_le_bytes code rest h) refl

decode_effect-effect_bytes : (done : Effect) (rest : List ℕ) → IsEncodableEffect done → decode_effect (effect_bytes done ++ rest) ≡ (done, rest)
unfolding decode_effect byte
decode_effect-effect_bytes effect.Keep rest h = refl
decode_effect-effect_bytes (effect.Set value) rest h = rw (decode_value-text_bytes value rest h) refl
decode_effect-effect_bytes effect.Remove rest h = refl

decode_process-process_bytes : (answer : ProcessAnswer) (rest : List ℕ) → IsEncodableProcess answer → decode_process (process_bytes answer ++ rest) ≡ (answer, rest)
unfolding decode_process byte
decode_process-process_bytes process.NotAsked rest h = refl
decode_process-process_bytes (process.Ended done outcome) rest h =
    rw (append_assoc (effect_bytes done) (optional_bytes text_bytes outcome) rest, decode_effect-effect_bytes done (optional_bytes text_bytes outcome ++ rest) h.0, decode_optional-optional_bytes text_bytes decode_value IsValueText decode_value-text_bytes outcome rest h.1) refl
decode_process-process_bytes (process.Failed code) rest h = rw (number_4-to_le_bytes code rest h) refl

decode_out-out_bytes : (out : Out) (rest : List ℕ) → IsEncodableOut out → decode_out (out_bytes out ++ rest) ≡ (out, rest)
unfolding decode_out
decode_out-out_bytes out rest h =
    let after_write : List ℕ = process_bytes out.process ++ rest in
    let after_load : List ℕ = write_bytes out.write ++ after_write in
    let regrouped : out_bytes out ++ rest ≡ load_bytes out.load ++ after_load = simp append_assoc in
    ap decode_out regrouped ∙ rw (decode_load-load_bytes out.load after_load h.load_is, decode_write-write_bytes out.write after_write h.write_is, decode_process-process_bytes out.process rest h.process_is) refl

decode_refusal-refusal_bytes : (refusal : Refusal) (rest : List ℕ) → IsEncodableRefusal refusal → decode_refusal (refusal_bytes refusal ++ rest) ≡ (refusal, rest)
unfolding decode_refusal byte
decode_refusal-refusal_bytes HistoryFull rest h = refl
decode_refusal-refusal_bytes Busy rest h = refl
decode_refusal-refusal_bytes TooManyInFlight rest h = refl
decode_refusal-refusal_bytes TooManyJoiners rest h = refl
decode_refusal-refusal_bytes (LoaderFailed code) rest h = rw (number_4-to_le_bytes code rest h) refl
decode_refusal-refusal_bytes (WriterFailed code) rest h = rw (number_4-to_le_bytes code rest h) refl
decode_refusal-refusal_bytes (ProcessorFailed code) rest h = rw (number_4-to_le_bytes code rest h) refl
decode_refusal-refusal_bytes OutOfMemory rest h = refl
decode_refusal-refusal_bytes TooManyKeys rest h = refl
decode_refusal-refusal_bytes (BadConfig Stripes) rest h = refl
decode_refusal-refusal_bytes (BadConfig Capacity) rest h = refl
decode_refusal-refusal_bytes (BadConfig History) rest h = refl
decode_refusal-refusal_bytes NoLoader rest h = refl
decode_refusal-refusal_bytes NoWriter rest h = refl
decode_refusal-refusal_bytes TooManySessions rest h = refl
decode_refusal-refusal_bytes StillReserved rest h = refl
decode_refusal-refusal_bytes RepeatedKey rest h = refl

-- a value that an entry holds is the entry
holds-same : (found : Option Bytes) (value : Bytes) → holds found value ≡ true → found ≡ Some value
holds-same None value h = cc
holds-same (Some held) value h = ap (λ (v : Bytes). Some v) (same_text held value (sym h))

decode_reply-value : (out : Out) (value rest : List ℕ) (b : Bool) → repeats_outside out value ≡ b → IsValueText value
    → decode_reply out (cond b (6 ∷ []) (4 ∷ text_bytes value) ++ rest) ≡ (reply.Value (Some value), rest)
unfolding decode_reply byte
decode_reply-value out value rest true same h = ap (λ (found : Option Bytes). (reply.Value found, rest)) (holds-same (value_from_outside out) value same)
decode_reply-value out value rest false same h = rw (decode_value-text_bytes value rest h) refl

decode_reply-reply_bytes : (out : Out) (answer : Reply) (rest : List ℕ) → IsEncodableReply answer → decode_reply out (reply_bytes out answer ++ rest) ≡ (answer, rest)
unfolding decode_reply byte
decode_reply-reply_bytes out reply.Unit rest h = refl
decode_reply-reply_bytes out (reply.Flag false) rest h = refl
decode_reply-reply_bytes out (reply.Flag true) rest h = refl
decode_reply-reply_bytes out (reply.Value None) rest h = refl
decode_reply-reply_bytes out (reply.Value (Some value)) rest h = decode_reply-value out value rest (repeats_outside out value) refl h
decode_reply-reply_bytes out (reply.Fault refusal) rest h = rw (decode_refusal-refusal_bytes refusal rest h) refl

regroup : (a b c d e f rest : List ℕ) → (a ++ (b ++ (c ++ (d ++ (e ++ f))))) ++ rest ≡ a ++ (b ++ (c ++ (d ++ (e ++ (f ++ rest)))))
regroup a b c d e f rest = simp append_assoc

-- an event's bytes decode to it, whatever follows them
pub decode_event-event_bytes : (event : Event) (rest : List ℕ) → IsEncodable event → decode_event (event_bytes event ++ rest) ≡ (event, rest)
unfolding decode_event decode_step byte
decode_event-event_bytes (Step caller op key out shared_with answer) rest h =
    let after_op : List ℕ = optional_bytes (to_le_bytes w32) shared_with ++ rest in
    let after_key : List ℕ = op_bytes op ++ after_op in
    let after_caller : List ℕ = text_bytes key ++ after_key in
    let after_reply : List ℕ = caller_bytes caller ++ after_caller in
    let after_out : List ℕ = reply_bytes out answer ++ after_reply in
    let regrouped = regroup (out_bytes out) (reply_bytes out answer) (caller_bytes caller) (text_bytes key) (op_bytes op) (optional_bytes (to_le_bytes w32) shared_with) rest in
    ap (λ (bytes : List ℕ). decode_event (0 ∷ bytes)) regrouped ∙ rw (
      decode_out-out_bytes out after_out h.out_is,
      decode_reply-reply_bytes out answer after_reply h.reply_is,
      decode_caller-caller_bytes caller after_caller h.caller_is,
      decode_key-text_bytes key after_key h.key_is,
      decode_op-op_bytes op after_op h.op_is,
      decode_optional-optional_bytes (to_le_bytes w32) number_4 IsCode number_4-to_le_bytes shared_with rest h.shared_with_is,
    ) refl
decode_event-event_bytes (Evict key Full) rest h = rw (decode_key-text_bytes key rest h) refl
decode_event-event_bytes (Evict key Memory) rest h = rw (decode_key-text_bytes key rest h) refl
decode_event-event_bytes (Evict key Invalidated) rest h = rw (decode_key-text_bytes key rest h) refl
