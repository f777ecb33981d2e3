-- One line of a record of calls: its time, its thread, its kind and its words.
--     thread_if, thread_of      a thread: t, and its number
--     clock_from, clock_of      a time that continues with these digits, and a time
--     is_clock                  a word that begins with @ is a time
--     kind_named                what a line says, by its word
--     NoteValue, note_value     a line that was read, as data
--     is_foreign_kind           a line says what another program did: no call's number follows
--     called, timed, note_of    a line, from the words after its kind, after its time, and from its bytes: without a time its own
--                               number is its time
--     rest_of                   the words after those that each line has
--     IsNote                    a function returned what the definition says
use Rattle.std.specs.Prelude.{◌≡◌, ◌==◌, ℕ, ◌+◌, ◌-◌, ◌*◌, List, [], ◌∷◌, drop, Bool, true, false, ◌&&◌, nat_le, Result, Ok, Err}
use Rattle.std.specs.Prelude.{if◌then◌else◌, codes}
use Rattle.std.specs.Str.{bytes_eq}
use Rattle.jc_text.specs.declared.fault.Fault.{Fault}
use Rattle.jc_text.specs.declared.fault.Fault.TheVariants.{BadLine, BadNumber, BadCaller}
use Rattle.jc_text.specs.Words.{◌>>=◌, is_digit, number_of, words_of}
use Rattle.jc_record.specs.declared.note.TheConstants.{CLOCK_TENTH, THREADS_MAX}
use Rattle.jc_record.specs.declared.note.Note.{Note}
use Rattle.jc_record.specs.declared.note.NoteKind.{NoteKind}
use Rattle.jc_record.specs.declared.note.NoteKind.TheVariants as kind

abbrev pub thread_if : Result ℕ Fault → Result ℕ Fault
thread_if (Ok n) = if nat_le n THREADS_MAX then Ok n else Err BadCaller
thread_if (Err e) = Err BadCaller

-- 116 is t
abbrev pub thread_of : List ℕ → Result ℕ Fault
thread_of [] = Err BadCaller
thread_of (b ∷ bs) = if b == 116 then thread_if (number_of bs) else Err BadCaller

abbrev pub clock_from : ℕ → List ℕ → Result ℕ Fault
clock_from n [] = Ok n
clock_from n (b ∷ bs) = if is_digit b && nat_le n CLOCK_TENTH then clock_from (n * 10 + (b - 48)) bs else Err BadNumber

abbrev pub clock_of : List ℕ → Result ℕ Fault
clock_of [] = Err BadNumber
clock_of (b ∷ bs) = clock_from 0 (b ∷ bs)

-- 64 is @
abbrev pub is_clock : List ℕ → Bool
is_clock [] = false
is_clock (b ∷ bs) = b == 64

abbrev pub kind_named : List ℕ → Result NoteKind Fault
kind_named word =
    if bytes_eq word (codes "call") then Ok kind.Call else
    if bytes_eq word (codes "is") then Ok kind.Is else
    if bytes_eq word (codes "load") then Ok kind.Load else
    if bytes_eq word (codes "loads") then Ok kind.Loads else
    if bytes_eq word (codes "loadfails") then Ok kind.LoadFails else
    if bytes_eq word (codes "write") then Ok kind.Write else
    if bytes_eq word (codes "delete") then Ok kind.Delete else
    if bytes_eq word (codes "writes") then Ok kind.Writes else
    if bytes_eq word (codes "deletes") then Ok kind.Writes else
    if bytes_eq word (codes "writefails") then Ok kind.WriteFails else
    if bytes_eq word (codes "deletefails") then Ok kind.WriteFails else
    if bytes_eq word (codes "process") then Ok kind.Process else
    if bytes_eq word (codes "foreign") then Ok kind.Foreign else
    Err BadLine

pub record NoteValue : Type 0 where
  pub at : ℕ
  pub thread : ℕ
  pub call : ℕ
  pub kind : NoteKind
  pub text : List ℕ
  pub skip : ℕ

abbrev pub note_value : Note → NoteValue
note_value n = record { at = n.at; thread = n.thread; call = n.call; kind = n.kind; text = n.text.now; skip = n.skip }

abbrev pub is_foreign_kind : NoteKind → Bool
is_foreign_kind kind.Foreign = true
is_foreign_kind other = false

abbrev pub called : ℕ → ℕ → NoteKind → List ℕ → ℕ → List (List ℕ) → Result NoteValue Fault
called at thread what text skip [] = Err BadLine
called at thread what text skip (n ∷ words) =
    if is_foreign_kind what
    then Ok (record { at = at; thread = thread; call = 0; kind = what; text = text; skip = skip + 2 })
    else (number_of n >>= λ call. Ok (record { at = at; thread = thread; call = call; kind = what; text = text; skip = skip + 3 }))

unfoldable pub timed : ℕ → List ℕ → ℕ → List (List ℕ) → Result NoteValue Fault
timed at text skip [] = Err BadLine
timed at text skip (who ∷ []) = Err BadLine
timed at text skip (who ∷ what ∷ words) = do
  kind ← kind_named what
  thread ← thread_of who
  called at thread kind text skip words

unfoldable pub note_of : ℕ → List ℕ → List (List ℕ) → Result NoteValue Fault
note_of line text [] = Err BadLine
note_of line text (first ∷ words) =
    if is_clock first then (clock_of (drop 1 first) >>= λ at. timed at text 1 words) else timed line text 0 (first ∷ words)

abbrev pub rest_of : NoteValue → List (List ℕ)
rest_of n = drop n.skip (words_of n.text)

abbrev pub IsNote : Result Note Fault → Result NoteValue Fault → Type 0
IsNote (Ok n) said = said ≡ Ok (note_value n)
IsNote (Err e) said = said ≡ Err e
