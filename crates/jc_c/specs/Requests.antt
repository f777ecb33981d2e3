-- The arguments of C as values of a stripe, and whether they fit.
--     key_fits              these bytes may be a key
--     value_fits            these bytes may be a value
--     takes_no_value        an operation without a value of its own, by its number
--     takes_value           an operation with one value, by its number
--     op_fits               the number is that of an operation, and its values fit
--     op_number_fits        the number is that of an operation
--     op_of_number          the operation with this number, and with those of these values that it has
--     load_of_number        the answer of a loader, by its number, its code and its value
--     load_number_fits      a number of a loader's answer, if it was asked
--     write_of_number       the answer of a writer, by its number and its code
--     write_number_fits     a number of a writer's answer, if it was asked
--     effect_of_number      the effect of a processor on the entry, by its number and its value
--     read_outcome          the return of a processor, if it returned a value
--     process_answer_of     the answer of a processor, by its number, its code, the value that it set and the one that it
--                           returned
--     effect_number_fits    a number of a processor's effect
--     read_process          the answer of a processor, from the fields of a struct
--     process_fits          the fields of a processor's answer fit: its number, and its values, the outcome if there is one
--     answers_beside        the answers of the loader and the writer, beside this answer of a processor
--     others_fit            the fields of these answers fit: their numbers, and the loaded value
--     processor_out         the answers of the loader, the processor and the writer
--     processed_fits        the fields of all three answers fit
--     entry_fits            these bytes may be an entry
use Rattle.std.specs.Prelude.{◌==◌, ◌&&◌, ◌||◌, ℕ, length, Bool, true, false, not, nat_le, nat_lt, Option, None, Some}
use Rattle.std.specs.Prelude.{if◌then◌else◌}
use Rattle.jc_types.specs.declared.limits.TheConstants.{KEY_MAX, VALUE_MAX}
use Rattle.jc_model.specs.declared.event.Op.{Op}
use Rattle.jc_model.specs.declared.event.Op.TheVariants as op
use Rattle.jc_model.specs.declared.event.Out.{Out}
use Rattle.jc_model.specs.declared.event.LoadAnswer.{LoadAnswer}
use Rattle.jc_model.specs.declared.event.LoadAnswer.TheVariants as load
use Rattle.jc_model.specs.declared.event.WriteAnswer.{WriteAnswer}
use Rattle.jc_model.specs.declared.event.WriteAnswer.TheVariants as write
use Rattle.jc_model.specs.declared.event.ProcessAnswer.{ProcessAnswer}
use Rattle.jc_model.specs.declared.event.ProcessAnswer.TheVariants as process
use Rattle.jc_model.specs.declared.event.Effect.{Effect}
use Rattle.jc_model.specs.declared.event.Effect.TheVariants as effect
use Rattle.jc_model.specs.Cache.{Bytes}
use Rattle.jc_c.specs.declared.codes.TheConstants.{JC_OP_CLEAR_KEY, JC_OP_CONTAINS_KEY, JC_ANSWER_FAILED, JC_ANSWER_FOUND}
use Rattle.jc_c.specs.declared.codes.TheConstants.{JC_OP_GET, JC_OP_GET_AND_PUT, JC_OP_GET_AND_REMOVE, JC_OP_GET_AND_REPLACE}
use Rattle.jc_c.specs.declared.codes.TheConstants.{JC_OP_INVOKE, JC_EFFECT_KEEP, JC_OP_LOAD, JC_ANSWER_NOTHING, JC_ANSWER_NOT_ASKED}
use Rattle.jc_c.specs.declared.codes.TheConstants.{JC_EFFECT_FAILED, JC_OP_PUT, JC_OP_PUT_IF_ABSENT, JC_OP_RELOAD, JC_OP_REMOVE}
use Rattle.jc_c.specs.declared.codes.TheConstants.{JC_OP_REMOVE_IF, JC_OP_REPLACE, JC_OP_REPLACE_IF, JC_EFFECT_SET}
use Rattle.jc_c.specs.declared.codes.TheConstants.{JC_EFFECT_REMOVE, JC_ANSWER_WRITTEN}
use Rattle.jc_c.specs.declared.layouts.InlineEntry.{InlineEntry}
use Rattle.jc_c.specs.declared.layouts.ProcessorAnswers.{ProcessorAnswers}
use Rattle.jc_c.specs.Layouts.{inline_value, is_inline_key, is_inline_value}

-- 1. Keys and values.

abbrev pub key_fits : Bytes → Bool
key_fits bytes = nat_lt 0 (length bytes) && nat_le (length bytes) KEY_MAX

abbrev pub value_fits : Bytes → Bool
value_fits bytes = nat_le (length bytes) VALUE_MAX

-- 2. Operations.

abbrev pub takes_no_value : ℕ → Bool
takes_no_value n =
    (n == JC_OP_GET) || (n == JC_OP_CONTAINS_KEY) || (n == JC_OP_REMOVE) || (n == JC_OP_GET_AND_REMOVE)
    || (n == JC_OP_CLEAR_KEY) || (n == JC_OP_LOAD) || (n == JC_OP_RELOAD) || (n == JC_OP_INVOKE)

abbrev pub takes_value : ℕ → Bool
takes_value n = (n == JC_OP_PUT) || (n == JC_OP_GET_AND_PUT) || (n == JC_OP_PUT_IF_ABSENT) || (n == JC_OP_REMOVE_IF)
    || (n == JC_OP_REPLACE) || (n == JC_OP_GET_AND_REPLACE)

abbrev pub op_fits : ℕ → Bytes → Bytes → Bool
op_fits n value other = takes_no_value n || (takes_value n && value_fits value) || ((n == JC_OP_REPLACE_IF)
    && value_fits value && value_fits other)

abbrev pub op_number_fits : ℕ → Bool
op_number_fits n = takes_no_value n || takes_value n || (n == JC_OP_REPLACE_IF)

abbrev pub op_of_number : ℕ → Bytes → Bytes → Op
op_of_number n value other =
    if n == JC_OP_GET then op.Get else (if n == JC_OP_CONTAINS_KEY then op.ContainsKey else (if n == JC_OP_PUT then op.Put value
    else (if n == JC_OP_GET_AND_PUT then op.GetAndPut value else (if n == JC_OP_PUT_IF_ABSENT then op.PutIfAbsent value
    else (if n == JC_OP_REMOVE then op.Remove else (if n == JC_OP_REMOVE_IF then op.RemoveIf value
    else (if n == JC_OP_GET_AND_REMOVE then op.GetAndRemove
    else (if n == JC_OP_REPLACE then op.Replace value else (if n == JC_OP_REPLACE_IF then op.ReplaceIf value other
    else (if n == JC_OP_GET_AND_REPLACE then op.GetAndReplace value else (if n == JC_OP_CLEAR_KEY then op.Clear
    else (if n == JC_OP_LOAD then op.LoadAll false else (if n == JC_OP_RELOAD then op.LoadAll true else op.Invoke)))))))))))))

-- 3. The answers of the loader, the writer and the processor.

abbrev pub load_of_number : ℕ → ℕ → Bytes → LoadAnswer
load_of_number n code value =
    if n == JC_ANSWER_FOUND then load.Found value else (if n == JC_ANSWER_NOTHING then load.Nothing
    else (if n == JC_ANSWER_FAILED then load.Failed code else load.NotAsked))

abbrev pub load_number_fits : ℕ → Bool
load_number_fits n = (n == JC_ANSWER_FOUND) || (n == JC_ANSWER_NOTHING) || (n == JC_ANSWER_FAILED)

abbrev pub write_of_number : ℕ → ℕ → WriteAnswer
write_of_number n code = if n == JC_ANSWER_WRITTEN then write.Done else (if n == JC_ANSWER_FAILED then write.Failed code
    else write.NotAsked)

abbrev pub write_number_fits : ℕ → Bool
write_number_fits n = (n == JC_ANSWER_WRITTEN) || (n == JC_ANSWER_FAILED)

abbrev pub effect_of_number : ℕ → Bytes → Effect
effect_of_number n set = if n == JC_EFFECT_SET then effect.Set set else (if n == JC_EFFECT_REMOVE then effect.Remove
    else effect.Keep)

abbrev pub read_outcome : Bool → Bytes → Option Bytes
read_outcome false outcome = None
read_outcome true outcome = Some outcome

abbrev pub process_answer_of : ℕ → ℕ → Bytes → Option Bytes → ProcessAnswer
process_answer_of n code set outcome = if n == JC_EFFECT_FAILED then process.Failed code
    else process.Ended (effect_of_number n set) outcome

abbrev pub effect_number_fits : ℕ → Bool
effect_number_fits n = (n == JC_EFFECT_KEEP) || (n == JC_EFFECT_SET) || (n == JC_EFFECT_REMOVE) || (n == JC_EFFECT_FAILED)

abbrev pub read_process : ProcessorAnswers → ProcessAnswer
read_process p = process_answer_of p.effect p.code (inline_value p.set) (read_outcome p.has_outcome (inline_value p.outcome))

abbrev pub process_fits : ProcessorAnswers → Bool
process_fits p = is_inline_value p.set && (not p.has_outcome || is_inline_value p.outcome) && effect_number_fits p.effect

abbrev pub answers_beside : ProcessorAnswers → ProcessAnswer → Out
answers_beside p process = record {
  load = load_of_number p.load p.load_code (inline_value p.loaded);
  write = write_of_number p.write p.write_code;
  process = process;
}

abbrev pub others_fit : ProcessorAnswers → Bool
others_fit p = is_inline_value p.loaded && ((p.load == JC_ANSWER_NOT_ASKED) || load_number_fits p.load)
    && ((p.write == JC_ANSWER_NOT_ASKED) || write_number_fits p.write)

abbrev pub processor_out : ProcessorAnswers → Out
processor_out p = answers_beside p (read_process p)

abbrev pub processed_fits : ProcessorAnswers → Bool
processed_fits p = process_fits p && others_fit p

-- 4. Entries.

abbrev pub entry_fits : InlineEntry → Bool
entry_fits e = is_inline_key e.key && is_inline_value e.value
