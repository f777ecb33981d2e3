-- How a script says numbers, keys, values and lines, and that each is read as what it says. A definition whose name ends in
-- `_words` gives words of a line, and one whose name ends in `_text` one word or a part of it.
--     IsNumber, IsSession, IsKey, IsValue      what a word can say: a number up to NUMBER_MAX; a session from 1 to 32; a key of
--                                              letters; a value of letters, or the empty value
--     IsValueOrNone, IsPair      the same of a value, or none; of a key with its value
--     NumbersReadBack, CallersReadBack, KeysReadBack, ValuesReadBack      each of these is read from its word: a number from its
--                                decimal digits, a session from an s and its number, a key from itself, a value as it is printed
--     session_text, pair_text    a session; a key, an equals sign and its value
--     flag_words                 the words for read-through and write-through, of what is on
--     operation_words            an operation's name, its key and its values; nothing, if it has no name
--     load_word                  whether a `loadall` replaces
--     bulk_words                 the name of a call of many keys, and its keys or its pairs
--     left_words                 the keys that the writer leaves, after `but`; nothing, if that isn't there
--     act_words                  what happens next to a call
--     shape_words                the shape of a world: its numbers, and what is on
--     line_words                 the words of what a line asks for
--     spelling                   the line itself: its words, separated by single spaces
--     IsSource, IsEntryCall, IsOptionalCode     how a processor's loader answers; a call of a processor, and its value; a code, or
--                                               none
--     AreValues                  the values of an operation
--     IsOperation, IsAct         an operation that has a name, and its values; an act, and its code or its pairs
--     AreKeyWords                    at least this number of keys, and none twice
--     AreDistinctPairs           the pairs of a call of many keys: at least one, and no key twice
--     AreLeftKeys                    the keys that the writer leaves, at least this number of them, if they are named
--     HasKeys                    the keys or the pairs of a call of many keys
--     IsShape                    the numbers of a shape
--     SaysWords                  what a line asks for consists of what words can say
--     IsSpellable                that, and the line isn't too long
--     LinesReadBack              what a script can say is read from its spelling
--     LinesAreSpelled            what is read from a line is something that a script can say, and the line is its spelling
use Rattle.std.specs.Prelude.{◌≡◌, ◌==◌, ◌⊎◌, ◌≤◌, ℕ, List, [], ◌∷◌, ◌++◌, map, length, codes, Bool, true, false, Option, None}
use Rattle.std.specs.Prelude.{Some, Ok, decimal}
use Rattle.std.specs.List.{All, IsDistinct, join_with_byte}
use Rattle.std.specs.Cmp.Lexicographic.{pointwise}
use Rattle.jc_types.specs.declared.config.Config.{Config}
use Rattle.jc_types.specs.declared.limits.TheConstants.{KEY_MAX, LINE_MAX, NUMBER_MAX, VALUE_MAX}
use Rattle.jc_types.specs.Limits.{is_session}
use Rattle.jc_model.specs.Cache.{Bytes}
use Rattle.jc_model.specs.declared.event.Op.{Op}
use Rattle.jc_model.specs.Table.{op_values}
use Rattle.jc_text.specs.declared.read.line.Line.{Line}
use Rattle.jc_text.specs.declared.read.line.Line.TheVariants.{Open, Set, Begin, BeginBulk, OfCall, Foreign, Invalidate, Reopen}
use Rattle.jc_text.specs.declared.read.line.Line.TheVariants.{Audit, Untold}
use Rattle.jc_text.specs.declared.read.line.BulkLine.{BulkLine}
use Rattle.jc_text.specs.declared.read.line.BulkLine.TheVariants as bulk
use Rattle.jc_text.specs.declared.read.line.ScriptAct.{ScriptAct}
use Rattle.jc_text.specs.declared.read.line.ScriptAct.TheVariants.{Read, ReadFail, Say, Apply, ApplyFail, ApplyLie, End, Drop, More}
use Rattle.jc_text.specs.declared.read.line.ScriptAct.TheVariants.{Take, Process}
use Rattle.jc_model.specs.declared.processor.EntryCall.{EntryCall}
use Rattle.jc_model.specs.declared.processor.EntryCall.TheVariants as entry
use Rattle.jc_world.specs.declared.process.LoadSource.{LoadSource}
use Rattle.jc_world.specs.declared.process.LoadSource.TheVariants.{Store, Stated, Failing}
use Rattle.jc_text.specs.ProcessWords.{source_words, call_text, fail_words}
use Rattle.jc_text.specs.Words.{number_of, caller_of, key_of, value_of, is_text}
use Rattle.jc_text.specs.Lines.{op_name, read_line}
use Rattle.jc_text.specs.Printing.{value_text, value_or_none_text}

-- 1. Words.

abbrev pub IsNumber : ℕ → Type 0
IsNumber n = n ≤ NUMBER_MAX

abbrev pub IsSession : ℕ → Type 0
IsSession session = is_session session ≡ true

abbrev pub IsKey : Bytes → Type 0
IsKey key = is_text KEY_MAX key ≡ true

abbrev pub IsValue : Bytes → Type 0
IsValue value = (value ≡ []) ⊎ (is_text VALUE_MAX value ≡ true)

abbrev pub IsValueOrNone : Option Bytes → Type 0
IsValueOrNone None = Unit {0}
IsValueOrNone (Some value) = IsValue value

abbrev pub IsPair : Bytes × Bytes → Type 0
IsPair pair = IsKey pair.0 × IsValue pair.1

abbrev pub session_text : ℕ → Bytes
session_text session = 115 ∷ decimal session

abbrev pub NumbersReadBack : Type 0
NumbersReadBack = (n : ℕ) → IsNumber n → number_of (decimal n) ≡ Ok n

abbrev pub CallersReadBack : Type 0
CallersReadBack = (session : ℕ) → IsSession session → caller_of (session_text session) ≡ Ok session

abbrev pub KeysReadBack : Type 0
KeysReadBack = (key : Bytes) → IsKey key → key_of key ≡ Ok key

abbrev pub ValuesReadBack : Type 0
ValuesReadBack = (value : Bytes) → IsValue value → value_of (value_text value) ≡ Ok value

-- 2. Lines.

-- a key, an equals sign and its value
abbrev pub pair_text : Bytes × Bytes → Bytes
pair_text pair = pair.0 ++ codes "=" ++ value_text pair.1

-- of what is on: read-through, and write-through
abbrev pub flag_words : Bool → Bool → List Bytes
flag_words false false = []
flag_words true false = codes "read" ∷ []
flag_words false true = codes "write" ∷ []
flag_words true true = codes "read" ∷ codes "write" ∷ []

-- nothing, if it has no name
abbrev pub operation_words : Op → Bytes → List Bytes
operation_words op key = elim (op_name op) [ None ↦ [] | Some name ↦ name ∷ key ∷ map value_text (op_values op) ]

abbrev pub load_word : Bool → Bytes
load_word false = codes "keep"
load_word true = codes "replace"

abbrev pub bulk_words : BulkLine → List Bytes
bulk_words (bulk.GetAll keys) = codes "getall" ∷ keys
bulk_words (bulk.PutAll pairs) = codes "putall" ∷ map pair_text pairs
bulk_words (bulk.RemoveAll keys) = codes "removeall" ∷ keys
bulk_words bulk.RemoveEvery = codes "removeevery" ∷ []
bulk_words bulk.Clear = codes "clear" ∷ []
bulk_words (bulk.LoadAll replace keys) = codes "loadall" ∷ load_word replace ∷ keys
bulk_words (bulk.InvokeAll keys) = codes "invokeall" ∷ keys

abbrev pub left_words : Option (List Bytes) → List Bytes
left_words None = []
left_words (Some left) = codes "but" ∷ left

abbrev pub act_words : ℕ → ScriptAct → List Bytes
act_words call Read = codes "read" ∷ decimal call ∷ []
act_words call (ReadFail code) = codes "readfail" ∷ decimal call ∷ decimal code ∷ []
act_words call (Say pairs) = codes "say" ∷ decimal call ∷ map pair_text pairs
act_words call (Apply left) = codes "apply" ∷ decimal call ∷ left_words left
act_words call (ApplyFail code left) = codes "applyfail" ∷ decimal call ∷ decimal code ∷ left_words left
act_words call (ApplyLie code) = codes "applylie" ∷ decimal call ∷ decimal code ∷ []
act_words call End = codes "end" ∷ decimal call ∷ []
act_words call Drop = codes "drop" ∷ decimal call ∷ []
act_words call More = codes "more" ∷ decimal call ∷ []
act_words call Take = codes "take" ∷ decimal call ∷ []
act_words call (Process source calls fail) =
    codes "process" ∷ decimal call ∷ (source_words source ++ (map call_text calls ++ fail_words fail))

abbrev pub shape_words : Config → List Bytes
shape_words config =
    decimal config.stripes ∷ decimal config.capacity ∷ decimal config.history ∷ flag_words config.read_through config.write_through

abbrev pub line_words : Line → List Bytes
line_words (Open config) = codes "open" ∷ shape_words config
line_words (Set key value) = codes "set" ∷ key ∷ value_text value ∷ []
line_words (Begin call session command) =
    codes "begin" ∷ decimal call ∷ session_text session ∷ operation_words command.op command.key
line_words (BeginBulk call session many) = codes "begin" ∷ decimal call ∷ session_text session ∷ bulk_words many
line_words (OfCall call act) = act_words call act
line_words (Foreign key value) = codes "foreign" ∷ key ∷ value_or_none_text value ∷ []
line_words (Invalidate key) = codes "invalidate" ∷ key ∷ []
line_words (Reopen config) = codes "reopen" ∷ shape_words config
line_words Audit = codes "audit" ∷ []
line_words Untold = codes "untold" ∷ []

-- the words, separated by single spaces
abbrev pub spelling : Line → Bytes
spelling line = join_with_byte 32 (line_words line)

-- 3. What a script can say.

-- the values of an operation
abbrev pub AreValues : List Bytes → Type 0
AreValues [] = Unit {0}
AreValues (value ∷ []) = IsValue value
AreValues (value ∷ next ∷ values) = IsValue value × AreValues (next ∷ values)

-- an operation that has a name
abbrev pub IsOperation : Op → Type 0
IsOperation op = elim (op_name op) [ None ↦ ⊥ | Some name ↦ AreValues (op_values op) ]

abbrev pub IsSource : LoadSource → Type 0
IsSource Store = Unit {0}
IsSource (Stated value) = IsValueOrNone value
IsSource (Failing code) = IsNumber code

abbrev pub IsEntryCall : EntryCall → Type 0
IsEntryCall entry.GetValue = Unit {0}
IsEntryCall entry.Exists = Unit {0}
IsEntryCall entry.Remove = Unit {0}
IsEntryCall (entry.SetValue value) = IsValue value

abbrev pub IsOptionalCode : Option ℕ → Type 0
IsOptionalCode None = Unit {0}
IsOptionalCode (Some code) = IsNumber code

-- at least this number of keys, and each of them once
abbrev pub AreKeyWords : ℕ → List Bytes → Type 0
AreKeyWords least keys = (least ≤ length keys) × All IsKey keys × IsDistinct (pointwise ◌==◌) keys

-- at least one, and each key once
abbrev pub AreDistinctPairs : List (Bytes × Bytes) → Type 0
AreDistinctPairs pairs = (1 ≤ length pairs) × All IsPair pairs × IsDistinct (pointwise ◌==◌) (map (λ pair. pair.0) pairs)

abbrev pub AreLeftKeys : ℕ → Option (List Bytes) → Type 0
AreLeftKeys least None = Unit {0}
AreLeftKeys least (Some left) = AreKeyWords least left

abbrev pub IsAct : ScriptAct → Type 0
IsAct Read = Unit {0}
IsAct (ReadFail code) = IsNumber code
IsAct (Say pairs) = All IsPair pairs
IsAct (Apply left) = AreLeftKeys 1 left
IsAct (ApplyFail code left) = IsNumber code × AreLeftKeys 0 left
IsAct (ApplyLie code) = IsNumber code
IsAct End = Unit {0}
IsAct Drop = Unit {0}
IsAct More = Unit {0}
IsAct Take = Unit {0}
IsAct (Process source calls fail) = IsSource source × All IsEntryCall calls × IsOptionalCode fail

abbrev pub HasKeys : BulkLine → Type 0
HasKeys (bulk.GetAll keys) = AreKeyWords 1 keys
HasKeys (bulk.PutAll pairs) = AreDistinctPairs pairs
HasKeys (bulk.RemoveAll keys) = AreKeyWords 1 keys
HasKeys bulk.RemoveEvery = Unit {0}
HasKeys bulk.Clear = Unit {0}
HasKeys (bulk.LoadAll replace keys) = AreKeyWords 1 keys
HasKeys (bulk.InvokeAll keys) = AreKeyWords 1 keys

abbrev pub IsShape : Config → Type 0
IsShape config = IsNumber config.stripes × IsNumber config.capacity × IsNumber config.history

abbrev pub SaysWords : Line → Type 0
SaysWords (Open config) = IsShape config
SaysWords (Set key value) = IsKey key × IsValue value
SaysWords (Begin call session command) = IsNumber call × IsSession session × IsOperation command.op × IsKey command.key
SaysWords (BeginBulk call session many) = IsNumber call × IsSession session × HasKeys many
SaysWords (OfCall call act) = IsNumber call × IsAct act
SaysWords (Foreign key value) = IsKey key × IsValueOrNone value
SaysWords (Invalidate key) = IsKey key
SaysWords (Reopen config) = IsShape config
SaysWords Audit = Unit {0}
SaysWords Untold = Unit {0}

-- that, in a line that isn't too long
abbrev pub IsSpellable : Line → Type 0
IsSpellable line = SaysWords line × (length (spelling line) ≤ LINE_MAX)

abbrev pub LinesReadBack : Type 0
LinesReadBack = (line : Line) → IsSpellable line → read_line (spelling line) ≡ Ok (Some line)

abbrev pub LinesAreSpelled : Type 0
LinesAreSpelled = (text : Bytes) (line : Line) → read_line text ≡ Ok (Some line) → IsSpellable line × (text ≡ spelling line)
