-- A record of calls (what `jcache check` reads), line by line: what is kept of the lines so far.
--     are_left, are_failure, are_run, are_foreign
--                               the words of a line are those of a writer's return, of a failure, of a processor's run, and of
--                               what another program did
--     are_words_of              the words of a line are those of its kind
--     OpenCall                  a call that has begun and not ended, and how it answers
--     form_open                 how an open call answers, if it is open
--     without                   the open calls without one
--     form_begun                how the call of a line that begins one answers
--     begun_with, ended_with, during
--                               the open calls after a call's begin, after its end, and after a line between them
--     open_after                the same after a line
--     ReadSoFar, nothing_read   what was read so far, and before the first line
--     flags_told, after_open    an `open`: the first one, with what is on
--     set_note, after_set       a `set`, with what the store has at a key at first
--     noted, after_note         an event: its time isn't before the last one's
--     after_words, after_line   a line, by its words and from its bytes: the first one names the format; a comment changes nothing
--     RecordValue               a record, as data
--     record_read, ended        the record that was read, if it has an `open`, and if its last line has a line feed
--     then_on, record_from, record_of
--                               the record of the lines from a number on, or the first line at fault; and that of a text
--     fault_at                  an error of the line with a number
--     record_value              the data of a record that was read
--     ReadsLines, ReadsRecord   the result of reading a text is that of `record_of`, unless an allocation failed
use Rattle.std.specs.Prelude.{◌≡◌, ◌==◌, ℕ, ◌+◌, List, [], ◌∷◌, ◌++◌, map, codes, Bool, true, false, ◌&&◌, nat_lt, Option, None}
use Rattle.std.specs.Prelude.{Some, Result, Ok, Err, if◌then◌else◌}
use Rattle.std.specs.Str.{bytes_eq}
use Rattle.jc_text.specs.declared.fault.Fault.{Fault}
use Rattle.jc_text.specs.declared.fault.Fault.TheVariants.{BadLine, CutLine, NoSuchCall, NotNow, NotOpen, NotRising, OpenTwice}
use Rattle.jc_text.specs.declared.fault.ReadError.{ReadError}
use Rattle.jc_text.specs.declared.fault.ReadError.TheVariants as errors
use Rattle.jc_text.specs.Pieces.{pieces_of}
use Rattle.jc_text.specs.Words.{◌>>=◌, key_of, number_of, pairs_of, value_or_none_of, words_of}
use Rattle.jc_record.specs.declared.told.AnswerForm.{AnswerForm}
use Rattle.jc_record.specs.declared.note.NoteKind.{NoteKind}
use Rattle.jc_record.specs.declared.note.NoteKind.TheVariants as kind
use Rattle.jc_record.specs.declared.open_calls.OpenCall.{OpenCall}
use Rattle.jc_record.specs.declared.reading.Record.{Record}
use Rattle.jc_record.specs.declared.reading.RecordFault.{RecordFault}
use Rattle.jc_record.specs.declared.reading.RecordFault.TheVariants as record_fault
use Rattle.jc_record.specs.Notes.{NoteValue, note_of, note_value, rest_of}
use Rattle.jc_record.specs.Words.{are_keys, are_pairs, call_line, form_of, keys_left, run_of, stored_told, told_of}

-- 1. The words of each kind of line.

abbrev pub are_left : List (List ℕ) → Result (Unit {0}) Fault
are_left words = keys_left words >>= λ keys. Ok tt

abbrev pub are_all_pairs : List (List ℕ) → Result (Unit {0}) Fault
are_all_pairs words = pairs_of words >>= λ pairs. Ok tt

abbrev pub are_code : List (List ℕ) → Result (Unit {0}) Fault
are_code (code ∷ []) = number_of code >>= λ code. Ok tt
are_code words = Err BadLine

abbrev pub are_failure : List (List ℕ) → Result (Unit {0}) Fault
are_failure [] = Err BadLine
are_failure (code ∷ words) = number_of code >>= λ code. are_left words

abbrev pub are_run : List (List ℕ) → Result (Unit {0}) Fault
are_run [] = Err BadLine
are_run (key ∷ words) = key_of key >>= λ key. run_of words >>= λ run. Ok tt

abbrev pub are_foreign : List (List ℕ) → Result (Unit {0}) Fault
are_foreign (key ∷ value ∷ []) = key_of key >>= λ key. value_or_none_of value >>= λ value. Ok tt
are_foreign words = Err BadLine

-- of a line between the begin and the end of a call
abbrev pub are_words_of : NoteKind → List (List ℕ) → Result (Unit {0}) Fault
are_words_of kind.Load words = are_keys words
are_words_of kind.Loads words = are_all_pairs words
are_words_of kind.LoadFails words = are_code words
are_words_of kind.Write words = are_pairs words
are_words_of kind.Delete words = are_keys words
are_words_of kind.Writes words = are_left words
are_words_of kind.WriteFails words = are_failure words
are_words_of kind.Process words = are_run words
are_words_of kind.Foreign words = are_foreign words
are_words_of kind.Set words = Err BadLine
are_words_of kind.Call words = Err BadLine
are_words_of kind.Is words = Err BadLine

-- 2. Calls that are open.

abbrev pub form_open : ℕ → List OpenCall → Option AnswerForm
form_open call [] = None
form_open call (first ∷ under_way) = if first.call == call then Some first.form else form_open call under_way

abbrev pub without : ℕ → List OpenCall → List OpenCall
without call [] = []
without call (first ∷ under_way) = if first.call == call then without call under_way else first ∷ without call under_way

abbrev pub form_begun : List (List ℕ) → Result AnswerForm Fault
form_begun words = call_line words >>= λ l. Ok (form_of l)

abbrev pub begun_with : List OpenCall → ℕ → Option AnswerForm → List (List ℕ) → Result (List OpenCall) Fault
begun_with under_way call (Some form) words = Err NotNow
begun_with under_way call None words = form_begun words >>= λ form. Ok (under_way ++ record { call = call; form = form } ∷ [])

abbrev pub ended_with : List OpenCall → ℕ → Option AnswerForm → List (List ℕ) → Result (List OpenCall) Fault
ended_with under_way call None words = Err NoSuchCall
ended_with under_way call (Some form) words = told_of form words >>= λ told. Ok (without call under_way)

abbrev pub during : List OpenCall → NoteKind → Option AnswerForm → List (List ℕ) → Result (List OpenCall) Fault
during under_way what None words = Err NoSuchCall
during under_way what (Some form) words = are_words_of what words >>= λ right. Ok under_way

abbrev pub open_after_of : List OpenCall → ℕ → NoteKind → List (List ℕ) → Result (List OpenCall) Fault
open_after_of under_way call kind.Call words = begun_with under_way call (form_open call under_way) words
open_after_of under_way call kind.Is words = ended_with under_way call (form_open call under_way) words
open_after_of under_way call kind.Foreign words = are_foreign words >>= λ right. Ok under_way
open_after_of under_way call what words = during under_way what (form_open call under_way) words

-- 3. What was read so far.

pub record ReadSoFar : Type 0 where
  pub config : Option (Bool × Bool)
  pub last : ℕ
  pub under_way : List OpenCall
  pub notes : List NoteValue

abbrev pub nothing_read : ReadSoFar
nothing_read = record { config = None; last = 0; under_way = []; notes = [] }

abbrev pub flags_told : List (List ℕ) → Result (Bool × Bool) Fault
flags_told [] = Ok (false, false)
flags_told (a ∷ []) =
    if bytes_eq a (codes "read") then Ok (true, false) else
    if bytes_eq a (codes "write") then Ok (false, true) else
    Err BadLine
flags_told (a ∷ b ∷ []) = if bytes_eq a (codes "read") && bytes_eq b (codes "write") then Ok (true, true) else Err BadLine
flags_told words = Err BadLine

abbrev pub opened_with : ReadSoFar → Option (Bool × Bool) → Bool × Bool → Result ReadSoFar Fault
opened_with so_far None flags = Ok (record so_far { config = Some flags })
opened_with so_far (Some other) flags = Err OpenTwice

abbrev pub after_open : ReadSoFar → List (List ℕ) → Result ReadSoFar Fault
after_open so_far words = flags_told words >>= λ flags. opened_with so_far so_far.config flags

abbrev pub set_note : List ℕ → NoteValue
set_note text = record { at = 0; thread = 0; call = 0; kind = kind.Set; text = text; skip = 1 }

abbrev pub are_set : List (List ℕ) → Result (Unit {0}) Fault
are_set (key ∷ value ∷ []) = key_of key >>= λ key. stored_told value >>= λ stored. Ok tt
are_set words = Err BadLine

abbrev pub if_open : {X : Type 0} → Option (Bool × Bool) → Result X Fault → Result X Fault
if_open None then_so = Err NotOpen
if_open (Some flags) then_so = then_so

abbrev pub after_set : ReadSoFar → List ℕ → List (List ℕ) → Result ReadSoFar Fault
after_set so_far text words =
    are_set words >>= λ right. if_open so_far.config (Ok (record so_far { notes = so_far.notes ++ set_note text ∷ [] }))

abbrev pub noted : ReadSoFar → NoteValue → Result ReadSoFar Fault
noted so_far n =
    if nat_lt n.at so_far.last then Err NotRising else
    (open_after_of so_far.under_way n.call n.kind (rest_of n) >>= λ under_way.
    Ok (record so_far { last = n.at; under_way = under_way; notes = so_far.notes ++ n ∷ [] }))

abbrev pub after_note : ReadSoFar → ℕ → List ℕ → List (List ℕ) → Result ReadSoFar Fault
after_note so_far number text words = note_of number text words >>= λ n. if_open so_far.config (noted so_far n)

abbrev pub after_words : ReadSoFar → ℕ → List ℕ → List (List ℕ) → Result ReadSoFar Fault
after_words so_far number text [] = Err BadLine
after_words so_far number text (first ∷ words) =
    if bytes_eq first (codes "open") then after_open so_far words else
    if bytes_eq first (codes "set") then after_set so_far text words else
    after_note so_far number text (first ∷ words)

-- an empty line, and one that begins with #
abbrev pub is_remark : List ℕ → Bool
is_remark [] = true
is_remark (b ∷ bs) = b == 35

abbrev pub after_first : ReadSoFar → List ℕ → Result ReadSoFar Fault
after_first so_far text = if bytes_eq text (codes "history 1") then Ok so_far else Err BadLine

abbrev pub after_other : ReadSoFar → ℕ → List ℕ → Result ReadSoFar Fault
after_other so_far number text = if is_remark text then Ok so_far else after_words so_far number text (words_of text)

unfoldable pub after_line : ReadSoFar → ℕ → List ℕ → Result ReadSoFar Fault
after_line so_far number text = if number == 1 then after_first so_far text else after_other so_far number text

-- 4. A whole record.

pub record RecordValue : Type 0 where
  pub config : Bool × Bool
  pub notes : List NoteValue

abbrev pub record_read : ℕ → Option (Bool × Bool) → List NoteValue → Result RecordValue (ℕ × Fault)
record_read number None notes = Err (number, NotOpen)
record_read number (Some flags) notes = Ok (record { config = flags; notes = notes })

abbrev pub ended : ReadSoFar → ℕ → Bool → Result RecordValue (ℕ × Fault)
ended so_far number true = record_read number so_far.config so_far.notes
ended so_far number false = Err (number, CutLine)

abbrev pub is_blank : List ℕ → Bool
is_blank [] = true
is_blank (b ∷ bs) = false

-- the first fault ends it
abbrev pub then_on : {X : Type 0} → ℕ → Result ReadSoFar Fault → (ReadSoFar → Result X (ℕ × Fault)) → Result X (ℕ × Fault)
then_on number (Ok so_far) go = go so_far
then_on number (Err fault) go = Err (number, fault)

-- there is always a last piece
abbrev pub record_from : ReadSoFar → ℕ → List (List ℕ) → Result RecordValue (ℕ × Fault)
record_from so_far number [] = ended so_far number true
record_from so_far number (last ∷ []) = ended so_far number (is_blank last)
record_from so_far number (text ∷ next ∷ more) =
    then_on number (after_line so_far number text) (λ new. record_from new (number + 1) (next ∷ more))

abbrev pub record_of : List ℕ → Result RecordValue (ℕ × Fault)
record_of text = record_from nothing_read 1 (pieces_of text)

-- 5. The results of the functions.

abbrev pub fault_at : ℕ → ReadError → RecordFault
fault_at number errors.Memory = record_fault.OutOfMemory
fault_at number (errors.Fault fault) = record_fault.Line number fault

abbrev pub ReadsLines : Result (ℕ × Bool) RecordFault → ReadSoFar → Result RecordValue (ℕ × Fault) → Type 0
ReadsLines (Ok r) new said = said ≡ ended new r.0 r.1
ReadsLines (Err record_fault.OutOfMemory) new said = Unit {0}
ReadsLines (Err (record_fault.Line number fault)) new said = said ≡ Err (number, fault)

abbrev pub record_value : Record → RecordValue
record_value r = record { config = r.config; notes = map note_value r.notes.items }

abbrev pub ReadsRecord : Result Record RecordFault → Result RecordValue (ℕ × Fault) → Type 0
ReadsRecord (Ok r) said = said ≡ Ok (record_value r)
ReadsRecord (Err record_fault.OutOfMemory) said = Unit {0}
ReadsRecord (Err (record_fault.Line number fault)) said = said ≡ Err (number, fault)
