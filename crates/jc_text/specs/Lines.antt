-- The kinds of line: first the shape of the whole line, then its words from the left. A definition whose name ends in `_of` takes
-- the words that follow a first word or a name, and gives what they ask for or their fault.
--     Gives                         what a function returned is what the definition says, unless an allocation failed
--     ok_with                       the same of a function that leaves its value in a place: the result with that value
--     with_line                     the same of a line: a flag says whether the line asks for anything
--     form_named                    the call that a word names, and what it takes
--     flags_of                      what of read-through and write-through is on
--     is_load_mode                  a word says which keys a `loadall` loads: those that are missing, or all
--     has_load_shape                such a word, and at least one more
--     bulk_takes, takes_words       these words may follow the name of a call of many keys, and an operation's name, by their
--                                   number
--     op_name                       the name of an operation, if it has one
--     bare_op, valued_op            the operation of a name with no value, and of a name with one
--     value_alone                   one value, and no word after it
--     bare_of, valued_of, replace_if_of      an operation with its key and no value, with one value, with an old and a new one
--     shape_of                      the shape of a world
--     open_of, reopen_of, set_of, begin_of     what the words after `open`, `reopen`, `set` and `begin` ask for
--     begin_with                    the begin of a call with an operation
--     keys_of, load_all_of          a call of many keys with its keys, and a `loadall`
--     bulk_of                       a call of many keys, with its keys or its pairs if it names any
--     bulk_with                     the begin of a call of many keys
--     command_of                    the begin of a call, by what follows the session
--     number_alone                  one number, and no word after it
--     lone_act, lone_of             an act with no other word than its call's number, and what the words of its line ask for
--     coded_act, coded_of           an act with a call's number and a code, and what the words of its line ask for
--     has_but_shape                 nothing follows what the writer does, or `but` and at least this number of words
--     left_of                       the keys that the writer leaves, if `but` is there
--     apply_of, apply_fail_of       what the words after `apply` and `applyfail` ask for
--     process_of                    what the words after `process` ask for
--     say_of, foreign_of, invalidate_of    what the words after `say`, `foreign` and `invalidate` ask for
--     audit_of, untold_of           what the words after `audit` and `untold` ask for: there are none
--     line_of                       what a first word and the words after it ask for
--     are_words                     no two spaces are next to each other, and none at either end: no word is empty
--     parsed                        what the words of a line ask for
--     is_plain                      a byte may be in a line: a space up to a tilde
--     is_comment                    a line that asks for nothing: an empty one, and one that begins with #
--     some_line                     a line that asks for something, or its fault
--     read_line                     what the bytes of a line ask for: nothing, for a comment
use Rattle.std.specs.Prelude.{◌≡◌, ◌==◌, ℕ, List, [], ◌∷◌, length, Bool, true, false, ◌&&◌, ◌||◌, not, nat_lt, nat_le, Option, Some}
use Rattle.std.specs.Prelude.{None, Result, Ok, Err, if◌then◌else◌, codes}
use Rattle.std.specs.Str.{bytes_eq}
use Rattle.std.specs.List.{list_all}
use Rattle.jc_model.specs.Cache.{Bytes}
use Rattle.jc_model.specs.declared.event.Op.{Op}
use Rattle.jc_model.specs.declared.event.Op.TheVariants as op
use Rattle.jc_text.specs.declared.read.line.Operation.{Operation}
use Rattle.jc_types.specs.declared.config.Config.{Config}
use Rattle.jc_types.specs.declared.limits.TheConstants.{LINE_MAX}
use Rattle.jc_text.specs.declared.fault.Fault.{Fault}
use Rattle.jc_text.specs.declared.fault.Fault.TheVariants.{LineTooLong, BadByte, BadLine}
use Rattle.jc_text.specs.declared.fault.ReadError.{ReadError}
use Rattle.jc_text.specs.declared.fault.ReadError.TheVariants as errors
use Rattle.jc_text.specs.declared.read.line.Line.{Line}
use Rattle.jc_text.specs.declared.read.line.Line.TheVariants.{Open, Set, Begin, BeginBulk, OfCall, Foreign, Invalidate, Reopen}
use Rattle.jc_text.specs.declared.read.line.Line.TheVariants.{Audit, Untold}
use Rattle.jc_text.specs.declared.read.line.BulkLine.{BulkLine}
use Rattle.jc_text.specs.declared.read.line.BulkLine.TheVariants as bulk
use Rattle.jc_text.specs.declared.read.line.ScriptAct.{ScriptAct}
use Rattle.jc_text.specs.declared.read.line.ScriptAct.TheVariants.{Read, ReadFail, Say, Apply, ApplyFail, ApplyLie, End, Drop, More}
use Rattle.jc_text.specs.declared.read.line.ScriptAct.TheVariants.{Take, Process}
use Rattle.jc_text.specs.declared.read.commands.Bare.{Bare}
use Rattle.jc_text.specs.declared.read.commands.Bare.TheVariants as bare
use Rattle.jc_text.specs.declared.read.commands.Valued.{Valued}
use Rattle.jc_text.specs.declared.read.commands.Valued.TheVariants as valued
use Rattle.jc_text.specs.declared.read.commands.BulkName.{BulkName}
use Rattle.jc_text.specs.declared.read.commands.BulkName.TheVariants as name
use Rattle.jc_text.specs.declared.read.commands.Form.{Form}
use Rattle.jc_text.specs.declared.read.commands.Form.TheVariants as form
use Rattle.jc_text.specs.declared.read.grammar.Lone.{Lone}
use Rattle.jc_text.specs.declared.read.grammar.Lone.TheVariants as lone
use Rattle.jc_text.specs.declared.read.grammar.Coded.{Coded}
use Rattle.jc_text.specs.declared.read.grammar.Coded.TheVariants as coded
use Rattle.jc_text.specs.Words.{◌>>=◌, words_of, number_of, caller_of, key_of, value_of, value_or_none_of, pairs_of}
use Rattle.jc_text.specs.Words.{distinct_pairs_of, distinct_keys_of}
use Rattle.jc_text.specs.ProcessWords.{without_load, has_process_shape, source_of, calls_of}

abbrev pub Gives : {X : Type 0} → Result X ReadError → Result X Fault → Type 0
Gives (Ok x) said = said ≡ Ok x
Gives (Err errors.Memory) said = Unit {0}
Gives (Err (errors.Fault fault)) said = said ≡ Err fault

-- the same of a function that leaves its value in a place
abbrev pub ok_with : {X E : Type 0} → X → Result (Unit {0}) E → Result X E
ok_with x (Ok u) = Ok x
ok_with x (Err e) = Err e

-- the same of a line: a flag says whether the line asks for anything
abbrev pub with_line : {E : Type 0} → Line → Result Bool E → Result (Option Line) E
with_line l (Ok true) = Ok (Some l)
with_line l (Ok false) = Ok None
with_line l (Err e) = Err e

-- 1. The fixed words.

-- the name of a call
abbrev pub form_named : List ℕ → Result Form Fault
form_named word =
    if bytes_eq word (codes "get") then Ok (form.Bare bare.Get) else
    if bytes_eq word (codes "contains") then Ok (form.Bare bare.Contains) else
    if bytes_eq word (codes "put") then Ok (form.Valued valued.Put) else
    if bytes_eq word (codes "getput") then Ok (form.Valued valued.GetPut) else
    if bytes_eq word (codes "putif") then Ok (form.Valued valued.PutIf) else
    if bytes_eq word (codes "remove") then Ok (form.Bare bare.Remove) else
    if bytes_eq word (codes "removeif") then Ok (form.Valued valued.RemoveIf) else
    if bytes_eq word (codes "getremove") then Ok (form.Bare bare.GetRemove) else
    if bytes_eq word (codes "replace") then Ok (form.Valued valued.Replace) else
    if bytes_eq word (codes "replaceif") then Ok form.ReplaceIf else
    if bytes_eq word (codes "getreplace") then Ok (form.Valued valued.GetReplace) else
    if bytes_eq word (codes "forget") then Ok (form.Bare bare.Forget) else
    if bytes_eq word (codes "invoke") then Ok (form.Bare bare.Invoke) else
    if bytes_eq word (codes "getall") then Ok (form.Bulk name.GetAll) else
    if bytes_eq word (codes "putall") then Ok (form.Bulk name.PutAll) else
    if bytes_eq word (codes "removeall") then Ok (form.Bulk name.RemoveAll) else
    if bytes_eq word (codes "removeevery") then Ok (form.Bulk name.RemoveEvery) else
    if bytes_eq word (codes "clear") then Ok (form.Bulk name.Clear) else
    if bytes_eq word (codes "loadall") then Ok (form.Bulk name.LoadAll) else
    if bytes_eq word (codes "invokeall") then Ok (form.Bulk name.InvokeAll) else
    Err BadLine

abbrev pub flags_of : List (List ℕ) → Result (Bool × Bool) Fault
flags_of [] = Ok (false, false)
flags_of (a ∷ []) =
    if bytes_eq a (codes "read") then Ok (true, false) else
    if bytes_eq a (codes "write") then Ok (false, true) else
    Err BadLine
flags_of (a ∷ b ∷ []) = if bytes_eq a (codes "read") && bytes_eq b (codes "write") then Ok (true, true) else Err BadLine
flags_of words = Err BadLine

-- 2. Operations.

-- those that are missing, or all
abbrev pub is_load_mode : List ℕ → Bool
is_load_mode word = bytes_eq word (codes "keep") || bytes_eq word (codes "replace")

abbrev pub has_load_shape : List (List ℕ) → Bool
has_load_shape [] = false
has_load_shape (mode ∷ words) = is_load_mode mode && nat_lt 0 (length words)

-- a key or a pair, or more; or none
abbrev pub bulk_takes : BulkName → List (List ℕ) → Bool
bulk_takes name.GetAll words = nat_lt 0 (length words)
bulk_takes name.PutAll words = nat_lt 0 (length words)
bulk_takes name.RemoveAll words = nat_lt 0 (length words)
bulk_takes name.RemoveEvery words = length words == 0
bulk_takes name.Clear words = length words == 0
bulk_takes name.LoadAll words = has_load_shape words
bulk_takes name.InvokeAll words = nat_lt 0 (length words)

abbrev pub takes_words : Form → List (List ℕ) → Bool
takes_words (form.Bare b) words = length words == 1
takes_words (form.Valued v) words = length words == 2
takes_words form.ReplaceIf words = length words == 3
takes_words (form.Bulk n) words = bulk_takes n words

-- the keys of a `loadall` have none of their own
abbrev pub op_name : Op → Option Bytes
op_name op.Get = Some (codes "get")
op_name op.ContainsKey = Some (codes "contains")
op_name (op.Put value) = Some (codes "put")
op_name (op.GetAndPut value) = Some (codes "getput")
op_name (op.PutIfAbsent value) = Some (codes "putif")
op_name op.Remove = Some (codes "remove")
op_name (op.RemoveIf old) = Some (codes "removeif")
op_name op.GetAndRemove = Some (codes "getremove")
op_name (op.Replace value) = Some (codes "replace")
op_name (op.ReplaceIf old value) = Some (codes "replaceif")
op_name (op.GetAndReplace value) = Some (codes "getreplace")
op_name op.Clear = Some (codes "forget")
op_name (op.LoadAll replace) = None
op_name op.Invoke = Some (codes "invoke")

abbrev pub bare_op : Bare → Op
bare_op bare.Get = op.Get
bare_op bare.Contains = op.ContainsKey
bare_op bare.Remove = op.Remove
bare_op bare.GetRemove = op.GetAndRemove
bare_op bare.Forget = op.Clear
bare_op bare.Invoke = op.Invoke

abbrev pub valued_op : Valued → Bytes → Op
valued_op valued.Put = op.Put
valued_op valued.GetPut = op.GetAndPut
valued_op valued.PutIf = op.PutIfAbsent
valued_op valued.RemoveIf = op.RemoveIf
valued_op valued.Replace = op.Replace
valued_op valued.GetReplace = op.GetAndReplace

abbrev pub bare_of : Op → List (List ℕ) → Result Operation Fault
bare_of o (k ∷ []) = do
  key ← key_of k
  Ok (record { op = o; key = key })
bare_of o words = Err BadLine

abbrev pub valued_of : (Bytes → Op) → List (List ℕ) → Result Operation Fault
valued_of o (k ∷ v ∷ []) = do
  key ← key_of k
  value ← value_of v
  Ok (record { op = o value; key = key })
valued_of o words = Err BadLine

abbrev pub value_alone : List (List ℕ) → Result Bytes Fault
value_alone (v ∷ []) = value_of v
value_alone words = Err BadLine

unfoldable pub replace_if_of : List (List ℕ) → Result Operation Fault
replace_if_of (k ∷ v ∷ words) = do
  key ← key_of k
  old ← value_of v
  value ← value_alone words
  Ok (record { op = op.ReplaceIf old value; key = key })
replace_if_of words = Err BadLine

abbrev pub keys_of : (List Bytes → BulkLine) → List (List ℕ) → Result BulkLine Fault
keys_of call words = distinct_keys_of words >>= λ keys. Ok (call keys)

-- the words' shape is known
abbrev pub load_all_of : List (List ℕ) → Result BulkLine Fault
load_all_of [] = Err BadLine
load_all_of (mode ∷ words) = keys_of (bulk.LoadAll (bytes_eq mode (codes "replace"))) words

-- the words' shape is known
abbrev pub bulk_of : BulkName → List (List ℕ) → Result BulkLine Fault
bulk_of name.GetAll words = keys_of bulk.GetAll words
bulk_of name.PutAll words = distinct_pairs_of words >>= λ pairs. Ok (bulk.PutAll pairs)
bulk_of name.RemoveAll words = keys_of bulk.RemoveAll words
bulk_of name.RemoveEvery words = Ok bulk.RemoveEvery
bulk_of name.Clear words = Ok bulk.Clear
bulk_of name.LoadAll words = load_all_of words
bulk_of name.InvokeAll words = keys_of bulk.InvokeAll words

-- 3. Lines, from the words after the first.

-- three numbers, and what is on
unfoldable pub shape_of : List (List ℕ) → Result Config Fault
shape_of (s ∷ c ∷ h ∷ flags) = do
  set ← flags_of flags
  stripes ← number_of s
  capacity ← number_of c
  history ← number_of h
  Ok (record { stripes = stripes; capacity = capacity; history = history; read_through = set.0; write_through = set.1 })
shape_of words = Err BadLine

abbrev pub open_of : List (List ℕ) → Result Line Fault
open_of words = shape_of words >>= λ config. Ok (Open config)

abbrev pub reopen_of : List (List ℕ) → Result Line Fault
reopen_of words = shape_of words >>= λ config. Ok (Reopen config)

unfoldable pub set_of : List (List ℕ) → Result Line Fault
set_of (k ∷ v ∷ []) = do
  key ← key_of k
  value ← value_of v
  Ok (Set key value)
set_of words = Err BadLine

-- or the fault of the command
abbrev pub begin_with : ℕ → ℕ → Result Operation Fault → Result Line Fault
begin_with number session command = command >>= λ command. Ok (Begin number session command)

-- or the fault of its keys
abbrev pub bulk_with : ℕ → ℕ → Result BulkLine Fault → Result Line Fault
bulk_with number session call = call >>= λ call. Ok (BeginBulk number session call)

abbrev pub command_of : ℕ → ℕ → Form → List (List ℕ) → Result Line Fault
command_of number session (form.Bare b) words = begin_with number session (bare_of (bare_op b) words)
command_of number session (form.Valued v) words = begin_with number session (valued_of (valued_op v) words)
command_of number session form.ReplaceIf words = begin_with number session (replace_if_of words)
command_of number session (form.Bulk n) words = bulk_with number session (bulk_of n words)

unfoldable pub begin_of : List (List ℕ) → Result Line Fault
begin_of (n ∷ who ∷ name ∷ words) = do
  form ← form_named name
  shaped ← (if takes_words form words then Ok true else Err BadLine)
  number ← number_of n
  session ← caller_of who
  command_of number session form words
begin_of words = Err BadLine

-- one number
abbrev pub number_alone : List (List ℕ) → Result ℕ Fault
number_alone (n ∷ []) = number_of n
number_alone words = Err BadLine

abbrev pub lone_act : Lone → ScriptAct
lone_act lone.Read = Read
lone_act lone.End = End
lone_act lone.Drop = Drop
lone_act lone.More = More
lone_act lone.Take = Take

-- a call's number alone
abbrev pub lone_of : ScriptAct → List (List ℕ) → Result Line Fault
lone_of act words = number_alone words >>= λ number. Ok (OfCall number act)

abbrev pub coded_act : Coded → ℕ → ScriptAct
coded_act coded.ReadFail code = ReadFail code
coded_act coded.ApplyLie code = ApplyLie code

-- a call's number, and a code
unfoldable pub coded_of : (ℕ → ScriptAct) → List (List ℕ) → Result Line Fault
coded_of act (n ∷ words) = do
  shaped ← (if length words == 1 then Ok true else Err BadLine)
  number ← number_of n
  code ← number_alone words
  Ok (OfCall number (act code))
coded_of act [] = Err BadLine

-- nothing, or `but` and at least this number of words
abbrev pub has_but_shape : ℕ → List (List ℕ) → Bool
has_but_shape least [] = true
has_but_shape least (word ∷ words) = bytes_eq word (codes "but") && nat_le least (length words)

-- the words' shape is known
abbrev pub left_of : List (List ℕ) → Result (Option (List Bytes)) Fault
left_of [] = Ok None
left_of (word ∷ words) = distinct_keys_of words >>= λ keys. Ok (Some keys)

-- a call's number, and maybe the keys that are left, at least one
unfoldable pub apply_of : List (List ℕ) → Result Line Fault
apply_of (n ∷ words) = do
  shaped ← (if has_but_shape 1 words then Ok true else Err BadLine)
  number ← number_of n
  left ← left_of words
  Ok (OfCall number (Apply left))
apply_of [] = Err BadLine

-- a call's number, a code, and maybe the keys that are left
unfoldable pub apply_fail_of : List (List ℕ) → Result Line Fault
apply_fail_of (n ∷ c ∷ words) = do
  shaped ← (if has_but_shape 0 words then Ok true else Err BadLine)
  number ← number_of n
  code ← number_of c
  left ← left_of words
  Ok (OfCall number (ApplyFail code left))
apply_fail_of words = Err BadLine

unfoldable pub say_of : List (List ℕ) → Result Line Fault
say_of (n ∷ words) = do
  number ← number_of n
  pairs ← pairs_of words
  Ok (OfCall number (Say pairs))
say_of [] = Err BadLine

unfoldable pub process_of : List (List ℕ) → Result Line Fault
process_of (n ∷ words) = do
  shaped ← (if has_process_shape words then Ok true else Err BadLine)
  number ← number_of n
  source ← source_of words
  run ← calls_of (without_load words)
  Ok (OfCall number (Process source run.0 run.1))
process_of [] = Err BadLine

unfoldable pub foreign_of : List (List ℕ) → Result Line Fault
foreign_of (k ∷ v ∷ []) = do
  key ← key_of k
  value ← value_or_none_of v
  Ok (Foreign key value)
foreign_of words = Err BadLine

unfoldable pub invalidate_of : List (List ℕ) → Result Line Fault
invalidate_of (k ∷ []) = do
  key ← key_of k
  Ok (Invalidate key)
invalidate_of words = Err BadLine

abbrev pub audit_of : List (List ℕ) → Result Line Fault
audit_of [] = Ok Audit
audit_of (x ∷ more) = Err BadLine

abbrev pub untold_of : List (List ℕ) → Result Line Fault
untold_of [] = Ok Untold
untold_of (x ∷ more) = Err BadLine

abbrev pub line_of : List ℕ → List (List ℕ) → Result Line Fault
line_of first words =
    if bytes_eq first (codes "begin") then begin_of words else
    if bytes_eq first (codes "open") then open_of words else
    if bytes_eq first (codes "set") then set_of words else
    if bytes_eq first (codes "foreign") then foreign_of words else
    if bytes_eq first (codes "audit") then audit_of words else
    if bytes_eq first (codes "read") then lone_of Read words else
    if bytes_eq first (codes "apply") then apply_of words else
    if bytes_eq first (codes "end") then lone_of End words else
    if bytes_eq first (codes "drop") then lone_of Drop words else
    if bytes_eq first (codes "more") then lone_of More words else
    if bytes_eq first (codes "take") then lone_of Take words else
    if bytes_eq first (codes "say") then say_of words else
    if bytes_eq first (codes "readfail") then coded_of ReadFail words else
    if bytes_eq first (codes "applyfail") then apply_fail_of words else
    if bytes_eq first (codes "applylie") then coded_of ApplyLie words else
    if bytes_eq first (codes "process") then process_of words else
    if bytes_eq first (codes "reopen") then reopen_of words else
    if bytes_eq first (codes "untold") then untold_of words else
    if bytes_eq first (codes "invalidate") then invalidate_of words else
    Err BadLine

-- no two spaces together, and none at either end
abbrev pub are_words : List (List ℕ) → Bool
are_words words = list_all (λ w. nat_lt 0 (length w)) words

unfoldable pub parsed : List (List ℕ) → Result Line Fault
parsed [] = Err BadLine
parsed (first ∷ words) = if are_words (first ∷ words) then line_of first words else Err BadLine

-- 4. A whole line.

-- a space up to a tilde
abbrev pub is_plain : ℕ → Bool
is_plain b = nat_le 32 b && nat_le b 126

abbrev pub is_comment : List ℕ → Bool
is_comment [] = true
is_comment (b ∷ bs) = b == 35

abbrev pub some_line : Result Line Fault → Result (Option Line) Fault
some_line (Ok l) = Ok (Some l)
some_line (Err f) = Err f

unfoldable pub read_line : List ℕ → Result (Option Line) Fault
read_line text =
    if nat_lt LINE_MAX (length text) then Err LineTooLong else
    if not (list_all is_plain text) then Err BadByte else
    if is_comment text then Ok None else
    some_line (parsed (words_of text))
