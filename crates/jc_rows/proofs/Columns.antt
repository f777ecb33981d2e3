-- The columns of the table are those of the rows.
use Rattle.std.proofs.Common.{◌≡◌, Bool, Option, refl}
use Rattle.jc_model.specs.declared.event.Op.{Op}
use Rattle.jc_model.specs.declared.event.Op.TheVariants.{Get, ContainsKey, Put, GetAndPut, PutIfAbsent, Remove, RemoveIf, GetAndRemove}
use Rattle.jc_model.specs.declared.event.Op.TheVariants.{Replace, ReplaceIf, GetAndReplace, Clear, LoadAll, Invoke}
use Rattle.jc_model.specs.declared.event.Out.{Out}
use Rattle.jc_model.specs.Cache.{Bytes}
use Rattle.jc_model.specs.Table.{loader_ask, write_ask, first_fault, entry_by_fault, reply_by_fault, entry_after, reply_after}
use Rattle.jc_rows.specs.Rows.{row, IsTable}

loader_is : (r : Bool) (op : Op) (e : Option Bytes) (out : Out) → loader_ask r op e ≡ (row r op e out).loader
loader_is r Get e out = refl
loader_is r ContainsKey e out = refl
loader_is r (Put v) e out = refl
loader_is r (GetAndPut v) e out = refl
loader_is r (PutIfAbsent v) e out = refl
loader_is r Remove e out = refl
loader_is r (RemoveIf o) e out = refl
loader_is r GetAndRemove e out = refl
loader_is r (Replace v) e out = refl
loader_is r (ReplaceIf o v) e out = refl
loader_is r (GetAndReplace v) e out = refl
loader_is r Clear e out = refl
loader_is r (LoadAll a) e out = refl
loader_is r Invoke e out = refl

writer_is : (r : Bool) (op : Op) (e : Option Bytes) (out : Out) → write_ask op e out.process ≡ (row r op e out).writer
writer_is r Get e out = refl
writer_is r ContainsKey e out = refl
writer_is r (Put v) e out = refl
writer_is r (GetAndPut v) e out = refl
writer_is r (PutIfAbsent v) e out = refl
writer_is r Remove e out = refl
writer_is r (RemoveIf o) e out = refl
writer_is r GetAndRemove e out = refl
writer_is r (Replace v) e out = refl
writer_is r (ReplaceIf o v) e out = refl
writer_is r (GetAndReplace v) e out = refl
writer_is r Clear e out = refl
writer_is r (LoadAll a) e out = refl
writer_is r Invoke e out = refl

left_is : (r : Bool) (op : Op) (e : Option Bytes) (out : Out) → entry_after op e out ≡ entry_by_fault (first_fault out) e (row r op e out).left
left_is r Get e out = refl
left_is r ContainsKey e out = refl
left_is r (Put v) e out = refl
left_is r (GetAndPut v) e out = refl
left_is r (PutIfAbsent v) e out = refl
left_is r Remove e out = refl
left_is r (RemoveIf o) e out = refl
left_is r GetAndRemove e out = refl
left_is r (Replace v) e out = refl
left_is r (ReplaceIf o v) e out = refl
left_is r (GetAndReplace v) e out = refl
left_is r Clear e out = refl
left_is r (LoadAll a) e out = refl
left_is r Invoke e out = refl

reply_is : (r : Bool) (op : Op) (e : Option Bytes) (out : Out) → reply_after op e out ≡ reply_by_fault (first_fault out) (row r op e out).reply
reply_is r Get e out = refl
reply_is r ContainsKey e out = refl
reply_is r (Put v) e out = refl
reply_is r (GetAndPut v) e out = refl
reply_is r (PutIfAbsent v) e out = refl
reply_is r Remove e out = refl
reply_is r (RemoveIf o) e out = refl
reply_is r GetAndRemove e out = refl
reply_is r (Replace v) e out = refl
reply_is r (ReplaceIf o v) e out = refl
reply_is r (GetAndReplace v) e out = refl
reply_is r Clear e out = refl
reply_is r (LoadAll a) e out = refl
reply_is r Invoke e out = refl

pub is_table : IsTable
is_table = record { loader = loader_is; writer = writer_is; left = left_is; reply = reply_is }
