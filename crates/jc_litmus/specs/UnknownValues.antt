-- Values that an expectation names or a call compares, and that no line of the program sets or writes.
--     reply_value, atom_value            the value that a reply names, and an atom
--     written_value                      the value that an operation may leave in the store; one that it only compares is none
--     has_value                          this is the value
--     is_set_by, is_written_by           a call on an entry sets this value; an item writes it
--     is_written_in                      an item of a thread does
--     is_stored                          an entry of the store has this value
--     is_known                           a line of the program sets or writes this value
--     unknown_text                       the beginning of the line about such a value
--     value_warning                      the line about such a value of an expectation, which has this text
--     warning_if_unknown, warning_of     that line about an atom, if its value is one
--     expectation_warnings               the lines about an expectation
--     compared_value                     the value with which an operation compares the entry
--     compared_warning, call_warning     the line about such a value of a call, and about a call, if its value is one
--     item_warning, thread_warnings      the lines about an item, and about a thread
--     warnings_text                      all lines about a program with its expectations
use Rattle.std.specs.Prelude.{◌==◌, ℕ, List, [], ◌++◌, codes, Bool, true, false, ◌||◌, Option, None, Some, if◌then◌else◌}
use Rattle.std.specs.Cmp.Lexicographic.{pointwise}
use Rattle.std.specs.List.{flat_map, list_any}
use Rattle.std.specs.Global.{Vec}
use Rattle.jc_model.specs.Cache.{Bytes}
use Rattle.jc_model.specs.declared.event.Op.{Op}
use Rattle.jc_model.specs.declared.event.Op.TheVariants as op
use Rattle.jc_model.specs.declared.event.Reply.{Reply}
use Rattle.jc_model.specs.declared.event.Reply.TheVariants as reply
use Rattle.jc_model.specs.declared.processor.EntryCall.{EntryCall}
use Rattle.jc_model.specs.declared.processor.EntryCall.TheVariants as call
use Rattle.jc_explore.specs.declared.program.Item.{Item}
use Rattle.jc_explore.specs.declared.program.Item.TheVariants as item
use Rattle.jc_explore.specs.declared.program.Program.{Program}
use Rattle.jc_text.specs.Printing.{value_text}
use Rattle.jc_text.specs.Spelled.{operation_words}
use Rattle.jc_litmus.specs.Spaced.{spaced}
use Rattle.jc_litmus.specs.declared.program.Atom.{Atom}
use Rattle.jc_litmus.specs.declared.program.Atom.TheVariants.{Cached, Coherent, Differs, Replied, Stored}
use Rattle.jc_litmus.specs.declared.program.Expectation.{Expectation}

abbrev pub reply_value : Reply → Option Bytes
reply_value reply.Unit = None
reply_value (reply.Flag flag) = None
reply_value (reply.Value value) = value
reply_value (reply.Fault fault) = None

abbrev pub atom_value : Atom → Option Bytes
atom_value (Replied thread call r) = reply_value r
atom_value (Cached key value) = value
atom_value (Stored key value) = value
atom_value Coherent = None
atom_value Differs = None

abbrev pub written_value : Op → Option Bytes
written_value op.Get = None
written_value op.ContainsKey = None
written_value (op.Put value) = Some value
written_value (op.GetAndPut value) = Some value
written_value (op.PutIfAbsent value) = Some value
written_value op.Remove = None
written_value (op.RemoveIf old) = None
written_value op.GetAndRemove = None
written_value (op.Replace value) = Some value
written_value (op.ReplaceIf old new) = Some new
written_value (op.GetAndReplace value) = Some value
written_value op.Clear = None
written_value (op.LoadAll replace) = None
written_value op.Invoke = None

abbrev pub has_value : Option Bytes → Bytes → Bool
has_value None value = false
has_value (Some found) value = pointwise ◌==◌ found value

abbrev pub is_set_by : Bytes → EntryCall → Bool
is_set_by value (call.SetValue set) = pointwise ◌==◌ set value
is_set_by value call.GetValue = false
is_set_by value call.Exists = false
is_set_by value call.Remove = false

abbrev pub is_written_by : Bytes → Item → Bool
is_written_by value (item.Call asked key) = has_value (written_value asked) value
is_written_by value (item.Invoke key calls) = list_any (is_set_by value) calls
is_written_by value (item.Foreign key found) = has_value found value
is_written_by value (item.Invalidate key) = false

abbrev pub is_written_in : Bytes → Vec Item → Bool
is_written_in value items = list_any (is_written_by value) items.items

abbrev pub is_stored : Bytes → Bytes × Bytes → Bool
is_stored value entry = pointwise ◌==◌ entry.1 value

abbrev pub is_known : Program → Bytes → Bool
is_known program value = list_any (is_stored value) program.stored.items || list_any (is_written_in value) program.threads.items

abbrev pub unknown_text : (value : List ℕ) → List ℕ
unknown_text value = codes "warning: no line sets or writes the value " ++ value_text value ++ codes ": "

abbrev pub value_warning : (value text : List ℕ) → List ℕ
value_warning value text = unknown_text value ++ (text ++ codes "\n")

abbrev pub warning_if_unknown : Program → (text : List ℕ) → Option Bytes → List ℕ
warning_if_unknown program text None = []
warning_if_unknown program text (Some value) = if is_known program value then [] else value_warning value text

abbrev pub warning_of : Program → (text : List ℕ) → Atom → List ℕ
warning_of program text atom = warning_if_unknown program text (atom_value atom)

abbrev pub expectation_warnings : Program → Expectation → List ℕ
expectation_warnings program e = flat_map (warning_of program e.text.items) e.atoms.items

abbrev pub compared_value : Op → Option Bytes
compared_value op.Get = None
compared_value op.ContainsKey = None
compared_value (op.Put value) = None
compared_value (op.GetAndPut value) = None
compared_value (op.PutIfAbsent value) = None
compared_value op.Remove = None
compared_value (op.RemoveIf old) = Some old
compared_value op.GetAndRemove = None
compared_value (op.Replace value) = None
compared_value (op.ReplaceIf old new) = Some old
compared_value (op.GetAndReplace value) = None
compared_value op.Clear = None
compared_value (op.LoadAll replace) = None
compared_value op.Invoke = None

unfoldable pub compared_warning : (value : List ℕ) → Op → Bytes → List ℕ
compared_warning value asked key =
    codes "warning: no line sets or writes the value " ++ value_text value ++ codes ":"
    ++ spaced (operation_words asked key) ++ codes "\n"

abbrev pub call_warning : Program → Op → Bytes → Option Bytes → List ℕ
call_warning program asked key None = []
call_warning program asked key (Some value) = if is_known program value then [] else compared_warning value asked key

abbrev pub item_warning : Program → Item → List ℕ
item_warning program (item.Call asked key) = call_warning program asked key (compared_value asked)
item_warning program (item.Invoke key calls) = []
item_warning program (item.Foreign key value) = []
item_warning program (item.Invalidate key) = []

abbrev pub thread_warnings : Program → Vec Item → List ℕ
thread_warnings program items = flat_map (item_warning program) items.items

abbrev pub warnings_text : Program → List Expectation → List ℕ
warnings_text program es = flat_map (thread_warnings program) program.threads.items ++ flat_map (expectation_warnings program) es
