-- The operation table by operation: fourteen rows. `r` is whether read-through is on, `e` the entry that the call finds, and `out`
-- what the loader and the processor answer.
--     Row       whom an operation asks, with write-through on, and what it leaves and replies if nobody fails
--     row_of    a row, from its columns
--     loaded    the entry with what the loader found, if it was asked and found a value
--     row       the row of an operation
--     IsTable   the law: each column of the table is that of these rows; a fault leaves the entry and is the reply
use Rattle.std.specs.Prelude.{◌≡◌, Bool, ◌&&◌, ◌||◌, Option, None, Some, is_some, is_none, if◌then◌else◌, unwrap_or}
use Rattle.jc_model.specs.declared.event.Op.{Op}
use Rattle.jc_model.specs.declared.event.Op.TheVariants.{Get, ContainsKey, Put, GetAndPut, PutIfAbsent, Remove}
use Rattle.jc_model.specs.declared.event.Op.TheVariants.{RemoveIf, GetAndRemove, Replace, ReplaceIf, GetAndReplace, Clear, LoadAll}
use Rattle.jc_model.specs.declared.event.Op.TheVariants.{Invoke}
use Rattle.jc_model.specs.declared.event.Out.{Out}
use Rattle.jc_model.specs.declared.event.Change.{Change}
use Rattle.jc_model.specs.declared.event.Change.TheVariants.{Write, Delete}
use Rattle.jc_model.specs.declared.event.Reply.{Reply}
use Rattle.jc_model.specs.declared.event.Reply.TheVariants.{Unit as Done, Flag, Value}
use Rattle.jc_model.specs.declared.table.LoaderAsk.{LoaderAsk}
use Rattle.jc_model.specs.declared.table.LoaderAsk.TheVariants.{Never}
use Rattle.jc_model.specs.Cache.{Bytes}
use Rattle.jc_model.specs.Table.{holds, always_if, wanted_if, loader_ask, write_ask, ask_if, process_ask, value_after_load}
use Rattle.jc_model.specs.Table.{entry_after_replace, after_effect, outcome_of, first_fault, entry_by_fault, reply_by_fault}
use Rattle.jc_model.specs.Table.{entry_after, reply_after}

pub record Row : Type 0 where
  pub loader : LoaderAsk
  pub writer : Option Change
  pub left : Option Bytes
  pub reply : Reply

abbrev pub row_of : LoaderAsk → Option Change → Option Bytes → Reply → Row
row_of loader writer left reply = record { loader = loader; writer = writer; left = left; reply = reply }

abbrev pub loaded : Option Bytes → Out → Option Bytes
loaded e out = value_after_load out.load e

-- in this order: whether it asks the loader, what it asks the writer for, what it leaves, what it replies
abbrev pub row : Bool → Op → Option Bytes → Out → Row
row r Get e out = row_of (always_if (r && is_none e)) None (loaded e out) (Value (loaded e out))
row r ContainsKey e out = row_of Never None e (Flag (is_some e))
row r (Put v) e out = row_of Never (Some (Write v)) (Some v) Done
row r (GetAndPut v) e out = row_of Never (Some (Write v)) (Some v) (Value e)
row r (PutIfAbsent v) e out = row_of Never (ask_if (is_none e) (Write v)) (Some (unwrap_or e v)) (Flag (is_none e))
row r Remove e out = row_of Never (Some Delete) None (Flag (is_some e))
row r (RemoveIf o) e out = row_of Never (ask_if (holds e o) Delete) (if holds e o then None else e) (Flag (holds e o))
row r GetAndRemove e out = row_of Never (Some Delete) None (Value e)
row r (Replace v) e out = row_of Never (ask_if (is_some e) (Write v)) (entry_after_replace e v) (Flag (is_some e))
row r (ReplaceIf o v) e out = row_of Never (ask_if (holds e o) (Write v)) (if holds e o then Some v else e) (Flag (holds e o))
row r (GetAndReplace v) e out = row_of Never (ask_if (is_some e) (Write v)) (entry_after_replace e v) (Value e)
row r Clear e out = row_of Never None None Done
row r (LoadAll a) e out = row_of (always_if (a || is_none e)) None (loaded e out) Done
row r Invoke e out = row_of (wanted_if (r && is_none e)) (process_ask out.process)
    (after_effect out.process (loaded e out)) (Value (outcome_of out.process))

pub record IsTable : Type 0 where
  pub loader : (r : Bool) (op : Op) (e : Option Bytes) (out : Out) → loader_ask r op e ≡ (row r op e out).loader
  pub writer : (r : Bool) (op : Op) (e : Option Bytes) (out : Out) → write_ask op e out.process ≡ (row r op e out).writer
  pub left : (r : Bool) (op : Op) (e : Option Bytes) (out : Out)
      → entry_after op e out ≡ entry_by_fault (first_fault out) e (row r op e out).left
  pub reply : (r : Bool) (op : Op) (e : Option Bytes) (out : Out)
      → reply_after op e out ≡ reply_by_fault (first_fault out) (row r op e out).reply
