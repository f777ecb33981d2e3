-- Where in its line a fault is, and what standard error says of it. Words of a line are counted from 0.
--     kind_in          what the next word has to be, of these words and then as many of one kind as there are
--     is_unknown       a word isn't one of the fixed words of its place, or no word may be there
--     is_wrong         a word doesn't say what its place asks for: a number, a session, a key, ..
--     is_bad           what is looked for: an empty word or an unknown one, or else a wrong one
--     bad_from, bad_among      the first such word from the left, or the place behind the last word: from a word on, and of all
--                              words
--     form_in          the operation that a `begin` names
--     after_name, operation_kinds      what has to follow the name of an operation
--     is_lone          a line has no word but its first and a call's number
--     bad_after, bad_in_begin, bad_in_line, bad_word      the first such word of a `begin`, of a line with this first word, and of
--                                                         a line
--     list_start       where the keys of a call of many keys begin, or those after `but`
--     or_goes_on       a place, if there is a fault, or else what follows
--     repeat_from, repeated_word      the first word whose key isn't new, or is none: from a word on, and of a line
--     word_meant       the word that a fault is about: of a state the one with the number, the session or what is asked for
--     start_from, start_of      how many bytes of a line are before a word; behind the last word one more than the line has
--     begins_call      a line begins a call
--     shape_text, what_text     what is wrong: with the shape of a line, and of any fault that is about a word
--     quoted           the word itself
--     not_now_hint     when a line with this first word fits
--     hint_of          what would fit in the place of a wrong word, or when the line fits; nothing of the other faults
--     word_text        the column of a word, what is wrong, the word, and what would fit
--     byte_text, bytes_text, bad_byte_text     what is wrong with a byte, and at which column
--     whole_text       what is wrong with a whole line
--     fault_text       the column and what is wrong, if it isn't the whole line
--     complaint        the line of standard error
use Rattle.std.specs.Prelude.{◌==◌, ◌&&◌, ◌||◌, ◌+◌, ◌-◌, ℕ, List, [], ◌∷◌, ◌++◌, drop, length, codes, decimal, Bool, true, false}
use Rattle.std.specs.Prelude.{not, is_ok, Option, None, Some, Result, Ok, Err, if◌then◌else◌}
use Rattle.std.specs.Str.{bytes_eq}
use Rattle.std.specs.List.{position}
use Rattle.jc_model.specs.Cache.{Bytes}
use Rattle.jc_types.specs.declared.config.Field.TheVariants.{Stripes, Capacity, History}
use Rattle.jc_text.specs.declared.read.commands.BulkName.TheVariants as name
use Rattle.jc_text.specs.declared.read.commands.Form.{Form}
use Rattle.jc_text.specs.declared.read.commands.Form.TheVariants as form
use Rattle.jc_text.specs.declared.fault.Fault.{Fault}
use Rattle.jc_text.specs.declared.fault.Fault.TheVariants.{CutLine, LineTooLong, BadByte, BadLine, BadNumber, BadCaller, BadKey}
use Rattle.jc_text.specs.declared.fault.Fault.TheVariants.{BadValue, RepeatedKey, NotOpen, BadConfig, SetTooLate, NotRising}
use Rattle.jc_text.specs.declared.fault.Fault.TheVariants.{CallerBusy, NoSuchCall, NotNow}
use Rattle.jc_text.specs.declared.read.place.Kind.{Kind}
use Rattle.jc_text.specs.declared.read.place.Kind.TheVariants as kind
use Rattle.jc_text.specs.declared.read.place.Following.{Following}
use Rattle.jc_text.specs.declared.read.place.WordSearch.{WordSearch}
use Rattle.jc_text.specs.declared.read.place.WordSearch.TheVariants.{Shape, Content}
use Rattle.jc_text.specs.FaultTexts.{text_of}
use Rattle.jc_text.specs.Lines.{form_named, is_load_mode, is_plain}
use Rattle.jc_text.specs.ProcessWords.{begins_with, is_entry_word, reads_entry_word}
use Rattle.jc_text.specs.Words.{words_of, number_of, caller_of, key_of, value_of, value_or_none_of, pair_onto, key_onto, key_text}

-- 1. Which word is meant.

abbrev pub kind_in : List Kind → Kind → Kind
kind_in [] rest = rest
kind_in (k ∷ kinds) rest = k

abbrev pub is_unknown : Kind → List ℕ → Bool
is_unknown kind.Operation word = not (is_ok (form_named word))
is_unknown kind.LoadMode word = not (is_load_mode word)
is_unknown kind.But word = not (bytes_eq word (codes "but"))
is_unknown kind.Flag word = not (bytes_eq word (codes "read") || bytes_eq word (codes "write"))
is_unknown kind.Entry word = not (is_entry_word word)
is_unknown kind.Nothing word = true
is_unknown other word = false

abbrev pub is_wrong : Kind → List ℕ → Bool
is_wrong kind.Number word = not (is_ok (number_of word))
is_wrong kind.Caller word = not (is_ok (caller_of word))
is_wrong kind.Key word = not (is_ok (key_of word))
is_wrong kind.Value word = not (is_ok (value_of word))
is_wrong kind.ValueOrNone word = not (is_ok (value_or_none_of word))
is_wrong kind.Pair word = not (is_ok (pair_onto [] word))
is_wrong kind.Entry word = not (reads_entry_word word)
is_wrong other word = false

abbrev pub is_bad : WordSearch → Kind → List ℕ → Bool
is_bad Shape k word = (length word == 0) || is_unknown k word
is_bad Content k word = is_wrong k word

abbrev pub bad_from : WordSearch → List Kind → Kind → ℕ → List (List ℕ) → ℕ
bad_from search kinds rest at [] = at
bad_from search kinds rest at (word ∷ words) =
    if is_bad search (kind_in kinds rest) word then at else bad_from search (drop 1 kinds) rest (at + 1) words

abbrev pub bad_among : WordSearch → List Kind → Kind → List (List ℕ) → ℕ
bad_among search kinds rest words = bad_from search kinds rest 0 words

abbrev pub form_in : List (List ℕ) → Result Form Fault
form_in (first ∷ n ∷ who ∷ word ∷ words) = form_named word
form_in words = Err BadLine

abbrev pub after_name : Kind → Kind → Kind → Kind → Following
after_name first second third rest = record { first = first; second = second; third = third; rest = rest }

abbrev pub operation_kinds : Result Form Fault → Following
operation_kinds (Ok (form.Bare b)) = after_name kind.Key kind.Nothing kind.Nothing kind.Nothing
operation_kinds (Ok (form.Valued v)) = after_name kind.Key kind.Value kind.Nothing kind.Nothing
operation_kinds (Ok form.ReplaceIf) = after_name kind.Key kind.Value kind.Value kind.Nothing
operation_kinds (Ok (form.Bulk name.PutAll)) = after_name kind.Pair kind.Pair kind.Pair kind.Pair
operation_kinds (Ok (form.Bulk name.LoadAll)) = after_name kind.LoadMode kind.Key kind.Key kind.Key
operation_kinds (Ok (form.Bulk name.RemoveEvery)) = after_name kind.Nothing kind.Nothing kind.Nothing kind.Nothing
operation_kinds (Ok (form.Bulk name.Clear)) = after_name kind.Nothing kind.Nothing kind.Nothing kind.Nothing
operation_kinds (Ok (form.Bulk name.GetAll)) = after_name kind.Key kind.Key kind.Key kind.Key
operation_kinds (Ok (form.Bulk name.RemoveAll)) = after_name kind.Key kind.Key kind.Key kind.Key
operation_kinds (Ok (form.Bulk name.InvokeAll)) = after_name kind.Key kind.Key kind.Key kind.Key
operation_kinds (Err e) = after_name kind.Nothing kind.Nothing kind.Nothing kind.Nothing

abbrev pub bad_after : WordSearch → Following → List (List ℕ) → ℕ
bad_after search f words =
    bad_among search (kind.First ∷ kind.Number ∷ kind.Caller ∷ kind.Operation ∷ f.first ∷ f.second ∷ f.third ∷ []) f.rest words

abbrev pub bad_in_begin : WordSearch → List (List ℕ) → ℕ
bad_in_begin search words = bad_after search (operation_kinds (form_in words)) words

abbrev pub is_lone : List ℕ → Bool
is_lone first =
    bytes_eq first (codes "read") || bytes_eq first (codes "end") || bytes_eq first (codes "drop") || bytes_eq first (codes "more")
    || bytes_eq first (codes "take")

abbrev pub bad_in_line : WordSearch → List ℕ → List (List ℕ) → ℕ
bad_in_line search first words =
    if bytes_eq first (codes "begin") then bad_in_begin search words else
    if bytes_eq first (codes "open") || bytes_eq first (codes "reopen") then
    bad_among search (kind.First ∷ kind.Number ∷ kind.Number ∷ kind.Number ∷ kind.Flag ∷ kind.Flag ∷ []) kind.Nothing words else
    if bytes_eq first (codes "set") then bad_among search (kind.First ∷ kind.Key ∷ kind.Value ∷ []) kind.Nothing words else
    if bytes_eq first (codes "foreign")
    then bad_among search (kind.First ∷ kind.Key ∷ kind.ValueOrNone ∷ []) kind.Nothing words else
    if bytes_eq first (codes "invalidate") then bad_among search (kind.First ∷ kind.Key ∷ []) kind.Nothing words else
    if bytes_eq first (codes "audit") || bytes_eq first (codes "untold")
    then bad_among search (kind.First ∷ []) kind.Nothing words else
    if bytes_eq first (codes "say") then bad_among search (kind.First ∷ kind.Number ∷ []) kind.Pair words else
    if bytes_eq first (codes "apply") then bad_among search (kind.First ∷ kind.Number ∷ kind.But ∷ []) kind.Key words else
    if bytes_eq first (codes "applyfail")
    then bad_among search (kind.First ∷ kind.Number ∷ kind.Number ∷ kind.But ∷ []) kind.Key words else
    if bytes_eq first (codes "readfail") || bytes_eq first (codes "applylie") then
    bad_among search (kind.First ∷ kind.Number ∷ kind.Number ∷ []) kind.Nothing words else
    if bytes_eq first (codes "process") then bad_among search (kind.First ∷ kind.Number ∷ []) kind.Entry words else
    if is_lone first then bad_among search (kind.First ∷ kind.Number ∷ []) kind.Nothing words else
    bad_among search [] kind.Nothing words

abbrev pub bad_word : WordSearch → List (List ℕ) → ℕ
bad_word search [] = 0
bad_word search (first ∷ words) = bad_in_line search first (first ∷ words)

abbrev pub list_start : List (List ℕ) → ℕ
list_start (first ∷ n ∷ who ∷ word ∷ words) =
    if bytes_eq first (codes "apply") then 3 else if bytes_eq word (codes "loadall") then 5 else 4
list_start words = 0

abbrev pub or_goes_on : {A : Type 0} → Result A Fault → ℕ → (A → ℕ) → ℕ
or_goes_on (Err e) at next = at
or_goes_on (Ok x) at next = next x

abbrev pub repeat_from : List Bytes → ℕ → List (List ℕ) → ℕ
repeat_from keys at [] = at
repeat_from keys at (word ∷ words) = or_goes_on (key_onto keys (key_text word)) at (λ more. repeat_from more (at + 1) words)

abbrev pub repeated_word : List (List ℕ) → ℕ
repeated_word words = repeat_from [] (list_start words) (drop (list_start words) words)

abbrev pub word_meant : Fault → List (List ℕ) → ℕ
word_meant BadLine words = bad_word Shape words
word_meant BadNumber words = bad_word Content words
word_meant BadCaller words = bad_word Content words
word_meant BadKey words = bad_word Content words
word_meant BadValue words = bad_word Content words
word_meant RepeatedKey words = repeated_word words
word_meant (BadConfig Stripes) words = 1
word_meant (BadConfig Capacity) words = 2
word_meant (BadConfig History) words = 3
word_meant NotRising words = 1
word_meant NoSuchCall words = 1
word_meant CallerBusy words = 2
word_meant other words = 0

-- 2. What is said.

abbrev pub start_from : ℕ → ℕ → List ℕ → ℕ
start_from left at [] = if left == 0 then at else at + 1
start_from left at (b ∷ bs) = if left == 0 then at else start_from (if b == 32 then left - 1 else left) (at + 1) bs

abbrev pub start_of : ℕ → List ℕ → ℕ
start_of word line = start_from word 0 line

abbrev pub begins_call : List (List ℕ) → Bool
begins_call [] = false
begins_call (first ∷ words) = bytes_eq first (codes "begin")

-- of the words from this place on
abbrev pub shape_text : (begins : Bool) (at : ℕ) → List (List ℕ) → List ℕ
shape_text begins at [] = codes "wrong number or order of words"
shape_text begins at (word ∷ words) =
    if length word == 0 then codes "no word (single spaces separate words)" else
    if at == 0 then codes "unknown word" else
    if begins && (at == 3) then codes "unknown operation" else codes "unexpected word"

abbrev pub what_text : Fault → ℕ → List (List ℕ) → List ℕ
what_text BadLine at words = shape_text (begins_call words) at (drop at words)
what_text fault at words = text_of fault

abbrev pub quoted : List (List ℕ) → List ℕ
quoted [] = []
quoted (word ∷ words) = if length word == 0 then [] else codes " '" ++ word ++ codes "'"

abbrev pub not_now_hint : List (List ℕ) → List ℕ
not_now_hint [] = []
not_now_hint (first ∷ words) =
    if bytes_eq first (codes "read") || bytes_eq first (codes "readfail") || bytes_eq first (codes "say") then
    codes " (it fits while the call waits for its loader)" else
    if bytes_eq first (codes "apply") || bytes_eq first (codes "applyfail") || bytes_eq first (codes "applylie") then
    codes " (it fits while the call waits for its writer; with but, if the call has many keys)" else
    if bytes_eq first (codes "process") then codes " (it fits while the call waits for its processor)" else
    if bytes_eq first (codes "end") then
    codes " (it fits if the call has a started key, and waits for no loader, writer or processor)" else
    if bytes_eq first (codes "drop") then
    codes " (it fits if no key is joined, and nothing has answered for a started key)" else
    if bytes_eq first (codes "take") then codes " (it fits if a key is joined, and none is started)" else
    if bytes_eq first (codes "more") then
    codes " (it fits if a key was put off or told to retry, and none is started or joined)" else
    if bytes_eq first (codes "invalidate") then
    codes " (it fits if the key is reserved, or isn't cached, or the history of its stripe has a free place)" else
    codes " (it fits if no call is under way)"

abbrev pub hint_of : Fault → List (List ℕ) → List ℕ
hint_of BadNumber words = codes " (0 to 999999999, without leading zeros)"
hint_of BadCaller words = codes " (s1 to s32)"
hint_of BadKey words = codes " (1 to 32 letters, digits, _ or .)"
hint_of BadValue words = codes " (1 to 256 letters, digits, _ or .; or ~ for the empty value; a pair is KEY=VALUE)"
hint_of NotOpen words = codes " (a script begins with open)"
hint_of (BadConfig Stripes) words = codes " (1 to 64)"
hint_of (BadConfig Capacity) words = codes " (1 to 4096)"
hint_of (BadConfig History) words = codes " (16 to 65536)"
hint_of SetTooLate words = codes " (it fits before the first begin, foreign, invalidate or reopen)"
hint_of NotRising words = codes " (the number of each call is above those before)"
hint_of CallerBusy words = codes " (its call isn't over)"
hint_of NotNow words = not_now_hint words
hint_of other words = []

-- of a fault that is about a word
unfoldable pub word_text : Fault → ℕ → List ℕ → List ℕ
word_text fault at line =
    codes ", column " ++ decimal (start_of at line + 1) ++ codes ": " ++ what_text fault at (words_of line)
    ++ quoted (drop at (words_of line))
    ++ hint_of fault (words_of line)

-- of the bytes from the first on that may not be in a line
abbrev pub byte_text : List ℕ → List ℕ
byte_text bytes =
    if begins_with (239 ∷ 187 ∷ 191 ∷ []) bytes then codes "byte order mark (save the script without one)" else
    if begins_with (13 ∷ []) bytes then codes "carriage return (lines end with a line feed alone)" else
    if begins_with (9 ∷ []) bytes then codes "tab (single spaces separate words)" else
    text_of BadByte

unfoldable pub bytes_text : ℕ → List ℕ → List ℕ
bytes_text at line = codes ", column " ++ decimal (at + 1) ++ codes ": " ++ byte_text (drop at line)

abbrev pub whole_text : Fault → List ℕ
whole_text fault = codes ": " ++ text_of fault

abbrev pub bad_byte_text : Option ℕ → List ℕ → List ℕ
bad_byte_text None line = whole_text BadByte
bad_byte_text (Some at) line = bytes_text at line

abbrev pub fault_text : Fault → List ℕ → List ℕ
fault_text CutLine line = whole_text CutLine
fault_text LineTooLong line = whole_text LineTooLong
fault_text BadByte line = bad_byte_text (position (λ b. not (is_plain b)) line) line
fault_text fault line = word_text fault (word_meant fault (words_of line)) line

unfoldable pub complaint : ℕ → List ℕ → Fault → List ℕ
complaint number line fault = codes "line " ++ decimal number ++ fault_text fault line ++ codes "\n"
