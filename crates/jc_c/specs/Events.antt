-- Events of a history, as flat structs.
--     read_cause         the cause of an eviction, by its number
--     process_if_run     the answer of a processor, if one ran
--     read_outside       the outside answers of a step
--     shared_in          the place of the step whose load is shared, if it is
--     ShowsEvent         an event, by the fields of a struct that count for it
--     KeepsBesideValues  beside these values of an operation, the bytes behind those that were written stay, and all of the rooms
--                        that it has no value for
--     KeepsBesideLoad    the same for the answer of a loader; its code stays unless it failed
--     KeepsBesideWrite   the code of a writer stays unless it failed
--     KeepsBesideEffect  the same for the effect of a processor
--     KeepsBesideProcess the same for the answer of a processor
--     KeepsBesideOutside the same for the outside answers
--     KeepsBesideShared  the place of the step whose load is shared stays if none is
--     KeepsBesideEvent   the same for an event: of an eviction only its key and its cause are written, of a step no cause
--     HasKnownNumbers    the numbers of a step's operation and of its outside answers are known
--     HasOutsideLengths  the lengths of the values of the outside answers fit
--     HasLengths         the lengths of all values of an event fit
--     read_reply         a reply, by its number, its code and its value
--     read_step          the step at this key that a struct states
--     read_event         the event that a struct states
--     outside_fits       the fields of the outside answers of a step fit
--     step_fits          the fields of a step fit
--     event_fits         the fields of an event fit
use Rattle.std.specs.Prelude.{◌≡◌, ◌==◌, ◌&&◌, ◌||◌, ℕ, List, [], ◌∷◌, Bool, true, false, nat_le, Option, None, Some, if◌then◌else◌}
use Rattle.jc_types.specs.declared.refusal.Refusal.TheVariants as refusal
use Rattle.jc_model.specs.declared.event.Cause.{Cause}
use Rattle.jc_model.specs.declared.event.Cause.TheVariants as cause
use Rattle.jc_model.specs.declared.event.Effect.{Effect}
use Rattle.jc_model.specs.declared.event.Effect.TheVariants as effect
use Rattle.jc_model.specs.declared.event.LoadAnswer.{LoadAnswer}
use Rattle.jc_model.specs.declared.event.LoadAnswer.TheVariants as load
use Rattle.jc_model.specs.declared.event.WriteAnswer.{WriteAnswer}
use Rattle.jc_model.specs.declared.event.WriteAnswer.TheVariants as write
use Rattle.jc_model.specs.declared.event.Out.{Out}
use Rattle.jc_model.specs.declared.event.ProcessAnswer.{ProcessAnswer}
use Rattle.jc_model.specs.declared.event.ProcessAnswer.TheVariants as process
use Rattle.jc_model.specs.declared.event.Reply.{Reply}
use Rattle.jc_model.specs.declared.event.Reply.TheVariants as reply
use Rattle.jc_model.specs.declared.event.Event.{Event}
use Rattle.jc_model.specs.declared.event.Event.TheVariants.{Step, Evict}
use Rattle.jc_model.specs.Cache.{Bytes}
use Rattle.jc_model.specs.Table.{op_values}
use Rattle.jc_c.specs.declared.codes.TheConstants.{JC_EVENT_EVICTION, JC_CAUSE_INVALIDATED, JC_CAUSE_MEMORY, JC_CAUSE_ROOM}
use Rattle.jc_c.specs.declared.codes.TheConstants.{JC_REPLY_LOADER_FAILED, JC_REPLY_NO, JC_ANSWER_NOT_ASKED, JC_EFFECT_NOT_RUN}
use Rattle.jc_c.specs.declared.codes.TheConstants.{JC_REPLY_NULL, JC_REPLY_PROCESSOR_FAILED, JC_EVENT_STEP, JC_REPLY_UNIT}
use Rattle.jc_c.specs.declared.codes.TheConstants.{JC_REPLY_VALUE, JC_REPLY_WRITER_FAILED, JC_REPLY_YES}
use Rattle.jc_c.specs.declared.layouts.FlatEvent.{FlatEvent}
use Rattle.jc_c.specs.declared.layouts.ProcessorAnswers.{ProcessorAnswers}
use Rattle.jc_c.specs.declared.layouts.InlineValue.{InlineValue}
use Rattle.jc_c.specs.Layouts.{inline_value, inline_key, is_inline_value, is_inline_key, HoldsKey, StaysBehindValue, StaysBehindKey}
use Rattle.jc_c.specs.Requests.{op_of_number, op_number_fits, load_number_fits, write_number_fits, effect_number_fits, op_fits}
use Rattle.jc_c.specs.Requests.{answers_beside, read_process, process_fits, others_fit}
use Rattle.jc_c.specs.Replies.{ShowsReply, KeepsBesideValue, KeepsBesideReply}

-- 1. An event that is written.

abbrev pub read_cause : ℕ → Cause
read_cause n =
    if n == JC_CAUSE_ROOM then cause.Full else (if n == JC_CAUSE_MEMORY then cause.Memory else cause.Invalidated)

abbrev pub process_if_run : ProcessorAnswers → ProcessAnswer
process_if_run p = if p.effect == JC_EFFECT_NOT_RUN then process.NotAsked else read_process p

abbrev pub read_outside : ProcessorAnswers → Out
read_outside p = answers_beside p (process_if_run p)

abbrev pub shared_in : FlatEvent → Option ℕ
shared_in f = if f.is_shared then Some f.shared_with else None

abbrev pub HasKnownNumbers : FlatEvent → Type 0
HasKnownNumbers f =
    (op_number_fits f.op ≡ true) × (((f.outside.load == JC_ANSWER_NOT_ASKED) || load_number_fits f.outside.load) ≡ true)
    × (((f.outside.write == JC_ANSWER_NOT_ASKED) || write_number_fits f.outside.write) ≡ true)
    × (((f.outside.effect == JC_EFFECT_NOT_RUN) || effect_number_fits f.outside.effect) ≡ true)

abbrev pub HasOutsideLengths : ProcessorAnswers → Type 0
HasOutsideLengths p = (is_inline_value p.loaded ≡ true) × (is_inline_value p.set ≡ true) × (is_inline_value p.outcome ≡ true)

abbrev pub HasLengths : FlatEvent → Type 0
HasLengths f = (is_inline_value f.value ≡ true) × (is_inline_value f.other ≡ true) × (is_inline_value f.replied ≡ true)
    × HasOutsideLengths f.outside

abbrev pub ShowsEvent : Event → FlatEvent → Type 0
ShowsEvent (Step caller op key out shared reply) f =
    (f.kind ≡ JC_EVENT_STEP) × (f.session ≡ caller.session) × (f.call ≡ caller.call)
    × (op_of_number f.op (inline_value f.value) (inline_value f.other) ≡ op)
    × HoldsKey f.key key × (read_outside f.outside ≡ out) × (shared_in f ≡ shared)
    × ShowsReply reply f.reply f.reply_code f.replied × HasKnownNumbers f
ShowsEvent (Evict key cause) f = (f.kind ≡ JC_EVENT_EVICTION) × HoldsKey f.key key × (read_cause f.cause ≡ cause)
    × (nat_le f.cause JC_CAUSE_INVALIDATED ≡ true)

abbrev pub KeepsBesideValues : List Bytes → InlineValue → InlineValue → InlineValue → InlineValue → Type 0
KeepsBesideValues [] old new old_other other = (new ≡ old) × (other ≡ old_other)
KeepsBesideValues (value ∷ []) old new old_other other = StaysBehindValue old new × (other ≡ old_other)
KeepsBesideValues (first ∷ second ∷ more) old new old_other other =
    StaysBehindValue old new × StaysBehindValue old_other other

abbrev pub KeepsBesideLoad : LoadAnswer → ℕ → ℕ → InlineValue → InlineValue → Type 0
KeepsBesideLoad load.NotAsked old_code code old new = (code ≡ old_code) × (new ≡ old)
KeepsBesideLoad (load.Found value) old_code code old new = (code ≡ old_code) × StaysBehindValue old new
KeepsBesideLoad load.Nothing old_code code old new = (code ≡ old_code) × (new ≡ old)
KeepsBesideLoad (load.Failed failed) old_code code old new = new ≡ old

abbrev pub KeepsBesideWrite : WriteAnswer → ℕ → ℕ → Type 0
KeepsBesideWrite write.NotAsked old_code code = code ≡ old_code
KeepsBesideWrite write.Done old_code code = code ≡ old_code
KeepsBesideWrite (write.Failed failed) old_code code = Unit {0}

abbrev pub KeepsBesideEffect : Effect → InlineValue → InlineValue → Type 0
KeepsBesideEffect effect.Keep old new = new ≡ old
KeepsBesideEffect (effect.Set value) old new = StaysBehindValue old new
KeepsBesideEffect effect.Remove old new = new ≡ old

abbrev pub KeepsBesideProcess : ProcessAnswer → ProcessorAnswers → ProcessorAnswers → Type 0
KeepsBesideProcess process.NotAsked old new =
    (new.code ≡ old.code) × (new.has_outcome ≡ old.has_outcome) × (new.set ≡ old.set) × (new.outcome ≡ old.outcome)
KeepsBesideProcess (process.Ended effect outcome) old new =
    (new.code ≡ old.code) × KeepsBesideEffect effect old.set new.set × KeepsBesideValue outcome old.outcome new.outcome
KeepsBesideProcess (process.Failed failed) old new =
    (new.has_outcome ≡ old.has_outcome) × (new.set ≡ old.set) × (new.outcome ≡ old.outcome)

pub record KeepsBesideOutside (out : Out) (old new : ProcessorAnswers) : Type 0 where
  pub load_stays : KeepsBesideLoad out.load old.load_code new.load_code old.loaded new.loaded
  pub write_stays : KeepsBesideWrite out.write old.write_code new.write_code
  pub process_stays : KeepsBesideProcess out.process old new

abbrev pub KeepsBesideShared : Option ℕ → ℕ → ℕ → Type 0
KeepsBesideShared None old new = new ≡ old
KeepsBesideShared (Some step) old new = Unit {0}

abbrev pub KeepsBesideEvent : Event → FlatEvent → FlatEvent → Type 0
KeepsBesideEvent (Step caller op key out shared reply) old new =
    (new.cause ≡ old.cause) × StaysBehindKey old.key new.key
    × KeepsBesideValues (op_values op) old.value new.value old.other new.other
    × KeepsBesideOutside out old.outside new.outside × KeepsBesideShared shared old.shared_with new.shared_with
    × KeepsBesideReply reply old.reply_code new.reply_code old.replied new.replied
KeepsBesideEvent (Evict key cause) old new =
    StaysBehindKey old.key new.key × (new ≡ record old { kind = new.kind; key = new.key; cause = new.cause })

-- 2. An event that is read.

abbrev pub read_reply : ℕ → ℕ → Bytes → Reply
read_reply n code value =
    if n == JC_REPLY_UNIT then reply.Unit else (if n == JC_REPLY_NO then reply.Flag false
    else (if n == JC_REPLY_YES then reply.Flag true
    else (if n == JC_REPLY_NULL then reply.Value None else (if n == JC_REPLY_VALUE then reply.Value (Some value)
    else (if n == JC_REPLY_LOADER_FAILED then reply.Fault (refusal.LoaderFailed code)
    else (if n == JC_REPLY_WRITER_FAILED then reply.Fault (refusal.WriterFailed code)
    else reply.Fault (refusal.ProcessorFailed code)))))))

abbrev pub read_step : FlatEvent → Bytes → Event
read_step f key =
    Step (record { session = f.session; call = f.call }) (op_of_number f.op (inline_value f.value) (inline_value f.other)) key
    (read_outside f.outside) (shared_in f)
    (read_reply f.reply f.reply_code (inline_value f.replied))

abbrev pub read_event : FlatEvent → Event
read_event f = if f.kind == JC_EVENT_EVICTION then Evict (inline_key f.key) (read_cause f.cause) else read_step f (inline_key f.key)

abbrev pub outside_fits : ProcessorAnswers → Bool
outside_fits p = ((p.effect == JC_EFFECT_NOT_RUN) || process_fits p) && others_fit p

abbrev pub step_fits : FlatEvent → Bool
step_fits f =
    is_inline_value f.value && is_inline_value f.other && op_fits f.op (inline_value f.value) (inline_value f.other)
    && outside_fits f.outside && is_inline_value f.replied
    && nat_le f.reply JC_REPLY_PROCESSOR_FAILED

abbrev pub event_fits : FlatEvent → Bool
event_fits f = is_inline_key f.key && (if f.kind == JC_EVENT_EVICTION then nat_le f.cause JC_CAUSE_INVALIDATED
    else ((f.kind == JC_EVENT_STEP) && step_fits f))
