-- The operation table: which operation asks the loader, which asks the writer and for what, the entry afterwards, the reply. The
-- two integration tables of JSR 107 are its first two columns. The rows of `Invoke`, and of `LoadAll` at an entry that is there,
-- are this provider's own.
--     holds                               whether an entry has this value
--     op_kind                             the kind of an operation: each put, replace and remove is a write
--     op_number                           the number of an operation, by which it is stored: no other operation has it
--     op_values                           the values of an operation, in their order
--     lent_values                         the same of lent ones
--     value_count                         how many values the operation with a number has
--     numbered_op                         the operation with a number, and with these values as far as it has any
--     is_load_given                       whether the loader answered
--     always_if, wanted_if                under a condition: the loader is asked; it is asked if the processor wants it
--     loader_ask                          the loader table: whether an operation asks the loader, never, always or if the
--                                         processor wants it
--     load_fits                           whether the loader answered as the table has it asked
--     value_after_load                    the entry with a loaded value, if one was found
--     to_change                           a change whose value is lent
--     ask_if                              a change, if it is asked for
--     effect_ask, process_ask             what the writer is asked for after a processor, by its net effect and by its answer
--     write_ask                           the writer table: the change that the writer is asked for, or nothing
--     is_write_given, is_process_given    whether the writer answered, and whether the processor did
--     is_invoke                           an operation runs a processor
--     load_fault, process_fault, write_fault    the fault of the loader, of the processor, of the writer, if it failed
--     first_of_two                        the first of two faults that is there
--     early_fault                         the fault of the loader or the processor, before the writer is asked
--     first_fault                         the first fault: the loader's before the processor's before the writer's
--     answers_fit                         exactly those answered whom the tables ask
--     after_effect                        the entry with a processor's net effect
--     outcome_of                          what a processor answers the caller
--     entry_after_replace                 a value in the place of an entry, if there is one
--     entry_without_fault, reply_without_fault    the last two columns, if there is no fault
--     entry_by_fault, reply_by_fault      the entry and the reply, by whether there is a fault: a fault leaves the entry and is
--                                         the reply
--     entry_after, reply_after            the last two columns: a fault leaves the entry and is the reply
--     NewStep                             one operation on one key with the outside answers and its reply
--     seq_entry, seq_cache                the entry that it leaves at its key, and the whole cache
--     Seq                                 the sequential step: one operation made on a whole cache
use Rattle.std.specs.Prelude.{◌≡◌, ◌==◌, ℕ, List, [], ◌∷◌, Bool, true, false, not, ◌&&◌, ◌||◌, IsTrue, Option, None, Some, is_some}
use Rattle.std.specs.Prelude.{is_none, if◌then◌else◌, unwrap_or}
use Rattle.std.specs.Bool.{beq}
use Rattle.std.specs.Cmp.Lexicographic.{pointwise}
use Rattle.jc_types.specs.declared.config.Config.{Config}
use Rattle.jc_types.specs.declared.refusal.Refusal.{Refusal}
use Rattle.jc_types.specs.declared.refusal.Refusal.TheVariants as refusal
use Rattle.jc_model.specs.declared.event.Op.{Op}
use Rattle.jc_model.specs.declared.event.Op.TheVariants.{Get, ContainsKey, Put, GetAndPut, PutIfAbsent, Remove, RemoveIf}
use Rattle.jc_model.specs.declared.event.Op.TheVariants.{GetAndRemove, Replace, ReplaceIf, GetAndReplace, Clear, LoadAll, Invoke}
use Rattle.jc_model.specs.declared.event.OpKind.{OpKind}
use Rattle.jc_model.specs.declared.event.OpKind.TheVariants as kind
use Rattle.jc_model.specs.declared.event.Out.{Out}
use Rattle.jc_model.specs.declared.event.LoadAnswer.{LoadAnswer}
use Rattle.jc_model.specs.declared.event.LoadAnswer.TheVariants as load
use Rattle.jc_model.specs.declared.event.WriteAnswer.{WriteAnswer}
use Rattle.jc_model.specs.declared.event.WriteAnswer.TheVariants as write
use Rattle.jc_model.specs.declared.event.ProcessAnswer.{ProcessAnswer}
use Rattle.jc_model.specs.declared.event.ProcessAnswer.TheVariants as process
use Rattle.jc_model.specs.declared.event.Effect.{Effect}
use Rattle.jc_model.specs.declared.event.Effect.TheVariants as effect
use Rattle.jc_model.specs.declared.event.Change.{Change}
use Rattle.jc_model.specs.declared.event.Change.TheVariants.{Write, Delete}
use Rattle.jc_model.specs.declared.event.Reply.{Reply}
use Rattle.jc_model.specs.declared.event.Reply.TheVariants as reply
use Rattle.jc_model.specs.declared.table.OpValues.{OpValues}
use Rattle.jc_model.specs.declared.table.OpValues.TheVariants as values
use Rattle.jc_model.specs.declared.table.LentChange.{LentChange}
use Rattle.jc_model.specs.declared.table.LentChange.TheVariants as lent
use Rattle.jc_model.specs.declared.table.LoaderAsk.{LoaderAsk}
use Rattle.jc_model.specs.declared.table.LoaderAsk.TheVariants.{Never, Always, IfWanted}
use Rattle.jc_model.specs.Cache.{Bytes, Cache, entry_at, with_entry}

-- whether the entry holds this value
abbrev pub holds : Option Bytes → Bytes → Bool
holds None value = false
holds (Some held) value = pointwise ◌==◌ held value

-- the kind of an operation
abbrev pub op_kind : Op → OpKind
op_kind Get = kind.Get
op_kind ContainsKey = kind.ContainsKey
op_kind (Put value) = kind.Write
op_kind (GetAndPut value) = kind.Write
op_kind (PutIfAbsent value) = kind.Write
op_kind Remove = kind.Write
op_kind (RemoveIf old) = kind.Write
op_kind GetAndRemove = kind.Write
op_kind (Replace value) = kind.Write
op_kind (ReplaceIf old new) = kind.Write
op_kind (GetAndReplace value) = kind.Write
op_kind Clear = kind.Clear
op_kind (LoadAll replace) = kind.LoadAll replace
op_kind Invoke = kind.Invoke

-- its number
abbrev pub op_number : Op → ℕ
op_number Get = 0
op_number ContainsKey = 1
op_number (Put value) = 2
op_number (GetAndPut value) = 3
op_number (PutIfAbsent value) = 4
op_number Remove = 5
op_number (RemoveIf old) = 6
op_number GetAndRemove = 7
op_number (Replace value) = 8
op_number (ReplaceIf old new) = 9
op_number (GetAndReplace value) = 10
op_number Clear = 11
op_number (LoadAll false) = 12
op_number (LoadAll true) = 13
op_number Invoke = 14

-- its values
abbrev pub op_values : Op → List Bytes
op_values Get = []
op_values ContainsKey = []
op_values (Put value) = value ∷ []
op_values (GetAndPut value) = value ∷ []
op_values (PutIfAbsent value) = value ∷ []
op_values Remove = []
op_values (RemoveIf old) = old ∷ []
op_values GetAndRemove = []
op_values (Replace value) = value ∷ []
op_values (ReplaceIf old new) = old ∷ new ∷ []
op_values (GetAndReplace value) = value ∷ []
op_values Clear = []
op_values (LoadAll replace) = []
op_values Invoke = []

abbrev pub lent_values : OpValues → List Bytes
lent_values values.Nothing = []
lent_values (values.One value) = value.now ∷ []
lent_values (values.Two first second) = first.now ∷ second.now ∷ []

-- how many values the operation with a number has
abbrev pub value_count : ℕ → ℕ
value_count n =
    if n == 2 then 1
    else if n == 3 then 1
    else if n == 4 then 1
    else if n == 6 then 1
    else if n == 8 then 1
    else if n == 9 then 2
    else if n == 10 then 1
    else 0

-- the operation with a number. It has as many of the values as its number says
abbrev pub numbered_op : ℕ → Bytes → Bytes → Op
numbered_op n first second =
    if n == 0 then Get
    else if n == 1 then ContainsKey
    else if n == 2 then Put first
    else if n == 3 then GetAndPut first
    else if n == 4 then PutIfAbsent first
    else if n == 5 then Remove
    else if n == 6 then RemoveIf first
    else if n == 7 then GetAndRemove
    else if n == 8 then Replace first
    else if n == 9 then ReplaceIf first second
    else if n == 10 then GetAndReplace first
    else if n == 11 then Clear
    else if n == 12 then LoadAll false
    else if n == 13 then LoadAll true
    else Invoke

-- 1. The loader.

-- whether an answer was given
abbrev pub is_load_given : LoadAnswer → Bool
is_load_given load.NotAsked = false
is_load_given (load.Found value) = true
is_load_given load.Nothing = true
is_load_given (load.Failed code) = true

abbrev pub always_if : Bool → LoaderAsk
always_if true = Always
always_if false = Never

abbrev pub wanted_if : Bool → LoaderAsk
wanted_if true = IfWanted
wanted_if false = Never

-- the loader table: whether an operation that finds an entry asks the loader
abbrev pub loader_ask : Bool → Op → Option Bytes → LoaderAsk
loader_ask read_through op entry = elim (op_kind op) [
  | kind.Get ↦ always_if (read_through && is_none entry)
  | kind.LoadAll replace ↦ always_if (replace || is_none entry)
  | kind.Invoke ↦ wanted_if (read_through && is_none entry)
  | kind.ContainsKey ↦ Never
  | kind.Write ↦ Never
  | kind.Clear ↦ Never
]

-- whether the loader answered as the table has it asked
abbrev pub load_fits : LoaderAsk → Bool → Bool
load_fits Never given = not given
load_fits Always given = given
load_fits IfWanted given = true

-- the entry with a loaded value, if one was found
abbrev pub value_after_load : LoadAnswer → Option Bytes → Option Bytes
value_after_load (load.Found value) entry = Some value
value_after_load load.NotAsked entry = entry
value_after_load load.Nothing entry = entry
value_after_load (load.Failed code) entry = entry

-- 2. The writer.

abbrev pub to_change : LentChange → Change
to_change (lent.Write value) = Write value.now
to_change lent.Delete = Delete

abbrev pub ask_if : Bool → Change → Option Change
ask_if true change = Some change
ask_if false change = None

-- what a processor's net effect asks for
abbrev pub effect_ask : Effect → Option Change
effect_ask effect.Keep = None
effect_ask (effect.Set value) = Some (Write value)
effect_ask effect.Remove = Some Delete

abbrev pub process_ask : ProcessAnswer → Option Change
process_ask (process.Ended net outcome) = effect_ask net
process_ask process.NotAsked = None
process_ask (process.Failed code) = None

-- the writer table: a change of the store, or nothing
abbrev pub write_ask : Op → Option Bytes → ProcessAnswer → Option Change
write_ask (Put value) entry answer = Some (Write value)
write_ask (GetAndPut value) entry answer = Some (Write value)
write_ask (PutIfAbsent value) entry answer = ask_if (is_none entry) (Write value)
write_ask Remove entry answer = Some Delete
write_ask (RemoveIf old) entry answer = ask_if (holds entry old) Delete
write_ask GetAndRemove entry answer = Some Delete
write_ask (Replace value) entry answer = ask_if (is_some entry) (Write value)
write_ask (ReplaceIf old new) entry answer = ask_if (holds entry old) (Write new)
write_ask (GetAndReplace value) entry answer = ask_if (is_some entry) (Write value)
write_ask Invoke entry answer = process_ask answer
write_ask Get entry answer = None
write_ask ContainsKey entry answer = None
write_ask Clear entry answer = None
write_ask (LoadAll replace) entry answer = None

abbrev pub is_write_given : WriteAnswer → Bool
is_write_given write.NotAsked = false
is_write_given write.Done = true
is_write_given (write.Failed code) = true

-- 3. The processor.

abbrev pub is_process_given : ProcessAnswer → Bool
is_process_given process.NotAsked = false
is_process_given (process.Ended net outcome) = true
is_process_given (process.Failed code) = true

abbrev pub is_invoke : Op → Bool
is_invoke op = elim (op_kind op) [
  | kind.Invoke ↦ true
  | kind.Get ↦ false
  | kind.ContainsKey ↦ false
  | kind.Write ↦ false
  | kind.Clear ↦ false
  | kind.LoadAll replace ↦ false
]

-- 4. A fault: the loader's before the processor's before the writer's.

abbrev pub load_fault : LoadAnswer → Option Refusal
load_fault (load.Failed code) = Some (refusal.LoaderFailed code)
load_fault load.NotAsked = None
load_fault (load.Found value) = None
load_fault load.Nothing = None

abbrev pub process_fault : ProcessAnswer → Option Refusal
process_fault (process.Failed code) = Some (refusal.ProcessorFailed code)
process_fault process.NotAsked = None
process_fault (process.Ended net outcome) = None

abbrev pub write_fault : WriteAnswer → Option Refusal
write_fault (write.Failed code) = Some (refusal.WriterFailed code)
write_fault write.NotAsked = None
write_fault write.Done = None

abbrev pub first_of_two : Option Refusal → Option Refusal → Option Refusal
first_of_two (Some fault) other = Some fault
first_of_two None other = other

-- before the writer is asked
abbrev pub early_fault : Out → Option Refusal
early_fault out = first_of_two (load_fault out.load) (process_fault out.process)

abbrev pub first_fault : Out → Option Refusal
first_fault out = first_of_two (early_fault out) (write_fault out.write)

-- exactly those answered whom the tables ask, and no writer after a loader's or processor's fault
abbrev pub answers_fit : Config → Op → Option Bytes → Out → Bool
answers_fit config op entry out =
    load_fits (loader_ask config.read_through op entry) (is_load_given out.load)
    && beq (is_process_given out.process) (is_invoke op)
    && beq (is_write_given out.write)
    (config.write_through && is_none (early_fault out) && is_some (write_ask op entry out.process))

-- 5. The entry afterwards, and the reply, if there is no fault.

abbrev pub after_effect : ProcessAnswer → Option Bytes → Option Bytes
after_effect (process.Ended (effect.Set value) outcome) entry = Some value
after_effect (process.Ended effect.Remove outcome) entry = None
after_effect (process.Ended effect.Keep outcome) entry = entry
after_effect process.NotAsked entry = entry
after_effect (process.Failed code) entry = entry

abbrev pub outcome_of : ProcessAnswer → Option Bytes
outcome_of (process.Ended net outcome) = outcome
outcome_of process.NotAsked = None
outcome_of (process.Failed code) = None

abbrev pub entry_after_replace : Option Bytes → Bytes → Option Bytes
entry_after_replace None value = None
entry_after_replace (Some old) value = Some value

abbrev pub entry_without_fault : Op → Option Bytes → Out → Option Bytes
entry_without_fault Get entry out = value_after_load out.load entry
entry_without_fault ContainsKey entry out = entry
entry_without_fault (Put value) entry out = Some value
entry_without_fault (GetAndPut value) entry out = Some value
entry_without_fault (PutIfAbsent value) entry out = Some (unwrap_or entry value)
entry_without_fault Remove entry out = None
entry_without_fault (RemoveIf old) entry out = if holds entry old then None else entry
entry_without_fault GetAndRemove entry out = None
entry_without_fault (Replace value) entry out = entry_after_replace entry value
entry_without_fault (ReplaceIf old new) entry out = if holds entry old then Some new else entry
entry_without_fault (GetAndReplace value) entry out = entry_after_replace entry value
entry_without_fault Clear entry out = None
entry_without_fault (LoadAll replace) entry out = value_after_load out.load entry
entry_without_fault Invoke entry out = after_effect out.process (value_after_load out.load entry)

abbrev pub reply_without_fault : Op → Option Bytes → Out → Reply
reply_without_fault Get entry out = reply.Value (value_after_load out.load entry)
reply_without_fault ContainsKey entry out = reply.Flag (is_some entry)
reply_without_fault (Put value) entry out = reply.Unit
reply_without_fault (GetAndPut value) entry out = reply.Value entry
reply_without_fault (PutIfAbsent value) entry out = reply.Flag (is_none entry)
reply_without_fault Remove entry out = reply.Flag (is_some entry)
reply_without_fault (RemoveIf old) entry out = reply.Flag (holds entry old)
reply_without_fault GetAndRemove entry out = reply.Value entry
reply_without_fault (Replace value) entry out = reply.Flag (is_some entry)
reply_without_fault (ReplaceIf old new) entry out = reply.Flag (holds entry old)
reply_without_fault (GetAndReplace value) entry out = reply.Value entry
reply_without_fault Clear entry out = reply.Unit
reply_without_fault (LoadAll replace) entry out = reply.Unit
reply_without_fault Invoke entry out = reply.Value (outcome_of out.process)

-- 6. One step at an entry: a fault leaves it and is the reply.

abbrev pub entry_by_fault : Option Refusal → Option Bytes → Option Bytes → Option Bytes
entry_by_fault (Some fault) before after = before
entry_by_fault None before after = after

abbrev pub reply_by_fault : Option Refusal → Reply → Reply
reply_by_fault (Some fault) answer = reply.Fault fault
reply_by_fault None answer = answer

abbrev pub entry_after : Op → Option Bytes → Out → Option Bytes
entry_after op entry out = entry_by_fault (first_fault out) entry (entry_without_fault op entry out)

abbrev pub reply_after : Op → Option Bytes → Out → Reply
reply_after op entry out = reply_by_fault (first_fault out) (reply_without_fault op entry out)

-- 7. The sequential step.

-- one operation on one key, with the outside answers and what it answered
pub record NewStep : Type 0 where
  pub op : Op
  pub key : Bytes
  pub out : Out
  pub reply : Reply

-- the entry that it leaves at its key, in a cache
abbrev pub seq_entry : Cache → NewStep → Option Bytes
seq_entry cache step = entry_after step.op (entry_at cache step.key) step.out

-- the cache that it leaves: no other key changes
abbrev pub seq_cache : Cache → NewStep → Cache
seq_cache cache step = with_entry cache step.key (seq_entry cache step)

-- the operation is made in a cache, as one step
pub record Seq (config : Config) (cache : Cache) (step : NewStep) (next : Cache) : Type 0 where
  pub answers : IsTrue (answers_fit config step.op (entry_at cache step.key) step.out)
  pub reply : step.reply ≡ reply_after step.op (entry_at cache step.key) step.out
  pub left : next ≡ seq_cache cache step
