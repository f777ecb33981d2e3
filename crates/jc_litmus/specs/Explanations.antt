-- The text on standard error for the fault at which a program ends.
--     begins_shared_line     a line begins with a word that scripts and programs share
--     is_unknown             a line has none of the forms that only programs have
--     is_shared              the fault of a line with these words is told as one of a script's
--     what_text              what is wrong, from a place of the line on
--     shape_hint, hint_of    what a line of this form has; what would fit in the place of the word, or when the line fits
--     word_text              the column of a word, what is wrong, the word, and what would fit
--     own_explanation, explanation    the whole line, as programs have it, and for any fault of a line
--     IsExplained            the result for a line's error, and what was told of it
--     explanation_if_open, explanation_at_end    what is told at the end of a text: that there is no `open`, or that the last line
--                                                is cut
--     ExplainsLines, ExplainsProgram    what was told of lines and of a text that were read, unless an allocation failed: nothing
--                                       without
--                            a fault
--     explanation_or         what is told of a line with a fault, or else of what follows
--     explanation_from, explanation_of    what is told of lines from a number on, and of a whole text: nothing if they have no
--                                         fault
use Rattle.std.specs.Prelude.{◌≡◌, ℕ, ◌+◌, List, [], ◌∷◌, ◌++◌, drop, codes, decimal, Bool, true, false, ◌||◌, Option, None, Some}
use Rattle.std.specs.Prelude.{Result, Ok, Err, if◌then◌else◌}
use Rattle.std.specs.Str.{bytes_eq}
use Rattle.jc_types.specs.declared.config.Config.{Config}
use Rattle.jc_explore.specs.declared.program.Item.{Item}
use Rattle.jc_text.specs.declared.fault.Fault.{Fault}
use Rattle.jc_text.specs.declared.fault.Fault.TheVariants.{BadByte, BadKey, BadLine, BadNumber, BadValue, CutLine, LineTooLong}
use Rattle.jc_text.specs.declared.fault.Fault.TheVariants.{NotOpen, SetTooLate}
use Rattle.jc_text.specs.Pieces.{pieces_of}
use Rattle.jc_text.specs.Places.{complaint, quoted, shape_text, start_of}
use Rattle.jc_text.specs.Words.{words_of}
use Rattle.jc_litmus.specs.declared.fault_word.LineForm.{LineForm}
use Rattle.jc_litmus.specs.declared.fault_word.LineForm.TheVariants as form
use Rattle.jc_litmus.specs.declared.line_error.LineError.{LineError}
use Rattle.jc_litmus.specs.declared.line_error.LineError.TheVariants as errors
use Rattle.jc_litmus.specs.declared.program.LineFault.{LineFault}
use Rattle.jc_litmus.specs.declared.program.LineFault.TheVariants.{BadReply, NoSuchItem, NoThread, NotACall, Script, TooManyItems}
use Rattle.jc_litmus.specs.declared.program.LineFault.TheVariants.{TooManyThreads}
use Rattle.jc_litmus.specs.declared.program.Litmus.{Litmus}
use Rattle.jc_litmus.specs.declared.program.ProgramFault.{ProgramFault}
use Rattle.jc_litmus.specs.declared.program.ProgramFault.TheVariants as program_fault
use Rattle.jc_litmus.specs.FaultWords.{form_of, word_meant}
use Rattle.jc_litmus.specs.LineFaults.{line_fault_text}
use Rattle.jc_litmus.specs.Program.{ReadSoFar, after_line, is_blank, nothing_read}

-- 1. A line.

abbrev pub begins_shared_line : List (List ℕ) → Bool
begins_shared_line [] = false
begins_shared_line (first ∷ words) =
    bytes_eq first (codes "open") || bytes_eq first (codes "set") || bytes_eq first (codes "foreign")
    || bytes_eq first (codes "invalidate")

abbrev pub is_unknown : LineForm → Bool
is_unknown form.Unknown = true
is_unknown form.Outside = false
is_unknown form.Expectation = false
is_unknown form.Thread = false
is_unknown form.Invoke = false
is_unknown (form.Call last) = false

abbrev pub is_shared : Fault → List (List ℕ) → Bool
is_shared CutLine words = true
is_shared LineTooLong words = true
is_shared BadByte words = true
is_shared NotOpen words = false
is_shared SetTooLate words = false
is_shared BadLine words = begins_shared_line words
is_shared other words = is_unknown (form_of words)

-- of the words from this place on
abbrev pub what_text : LineFault → (at : ℕ) → List (List ℕ) → List ℕ
what_text (Script BadLine) at words = shape_text false at words
what_text fault at words = line_fault_text fault

abbrev pub shape_hint : LineForm → List ℕ
shape_hint form.Outside = codes " (loader may fail C, writer may fail C, writer may lie C or processor may fail C)"
shape_hint form.Expectation = codes " (an atom is T.I=REPLY, cache.K=V, store.K=V, coherent or differs)"
shape_hint form.Thread = codes " (a line thread has no other word)"
shape_hint form.Invoke = codes " (invoke K : CALL .., each CALL get, exists, remove or set=V)"
shape_hint (form.Call last) = codes " (a call has its key, and as many values as its name asks for)"
shape_hint form.Unknown =
    codes
    " (a call is get, contains, put, getput, putif, remove, removeif, getremove, forget, replace, replaceif, getreplace or invoke)"

abbrev pub hint_of : LineFault → List (List ℕ) → List ℕ
hint_of (Script BadLine) words = shape_hint (form_of words)
hint_of (Script BadNumber) words = codes " (0 to 999999999, without leading zeros)"
hint_of (Script BadKey) words = codes " (1 to 32 letters, digits, _ or .)"
hint_of (Script BadValue) words = codes " (1 to 256 letters, digits, _ or .; or ~ for the empty value)"
hint_of (Script NotOpen) words = codes " (a program begins with open)"
hint_of (Script SetTooLate) words = codes " (it fits before the first thread)"
hint_of (Script other) words = []
hint_of NoThread words = codes " (a line thread begins the first thread, and items follow it)"
hint_of TooManyThreads words = codes " (at most 8)"
hint_of TooManyItems words = codes " (at most 32, of all threads together)"
hint_of BadReply words =
    codes " (what this call can answer: ok, true, false, a value or -, WriterFailed:7, refused:HistoryFull, ..)"
hint_of NoSuchItem words = codes " (T.I is a call on a line above: item I of thread T)"
hint_of NotACall words = codes " (items are calls of one key, forget, foreign and invalidate)"

-- threads: those above the line
unfoldable pub word_text : (threads : List (List Item)) → LineFault → (line : List ℕ) → List ℕ
word_text threads fault line =
    let at = word_meant threads fault (words_of line) in
    codes ", column " ++ decimal (start_of at line + 1) ++ codes ": " ++ what_text fault at (drop at (words_of line))
    ++ quoted (drop at (words_of line))
    ++ hint_of fault (words_of line)

unfoldable pub own_explanation : (threads : List (List Item)) (number : ℕ) (line : List ℕ) → LineFault → List ℕ
own_explanation threads number line fault = codes "line " ++ decimal number ++ word_text threads fault line ++ codes "\n"

abbrev pub explanation : (threads : List (List Item)) (number : ℕ) (line : List ℕ) → LineFault → List ℕ
explanation threads number line (Script f) =
    if is_shared f (words_of line) then complaint number line f else own_explanation threads number line (Script f)
explanation threads number line fault = own_explanation threads number line fault

-- old, new: what was told before and after
abbrev pub IsExplained : (threads : List (List Item)) (number : ℕ) (line : List ℕ) → LineError → (old new : List ℕ)
    → ProgramFault → Type 0
IsExplained threads number line error old new program_fault.OutOfMemory = Unit {0}
IsExplained threads number line error old new (program_fault.Line at fault) =
    (error ≡ errors.Fault fault) × (at ≡ number) × (new ≡ old ++ explanation threads number line fault)

-- 2. A text.

abbrev pub explanation_if_open : (number : ℕ) → Option Config → List ℕ
explanation_if_open number None = explanation [] number [] (Script NotOpen)
explanation_if_open number (Some config) = []

abbrev pub explanation_at_end : ReadSoFar → (number : ℕ) → Bool → List ℕ
explanation_at_end so_far number true = explanation_if_open number so_far.config
explanation_at_end so_far number false = explanation [] number [] (Script CutLine)

abbrev pub explanation_or : ReadSoFar → (number : ℕ) (line : List ℕ) → Result ReadSoFar LineFault → (ReadSoFar → List ℕ) → List ℕ
explanation_or so_far number line (Ok new) go = go new
explanation_or so_far number line (Err fault) go = explanation so_far.threads number line fault

-- there is always a last piece
abbrev pub explanation_from : ReadSoFar → (number : ℕ) → List (List ℕ) → List ℕ
explanation_from so_far number [] = explanation_at_end so_far number true
explanation_from so_far number (last ∷ []) = explanation_at_end so_far number (is_blank last)
explanation_from so_far number (line ∷ next ∷ more) =
    explanation_or so_far number line (after_line so_far line) (λ new. explanation_from new (number + 1) (next ∷ more))

abbrev pub explanation_of : List ℕ → List ℕ
explanation_of text = explanation_from nothing_read 1 (pieces_of text)

-- 3. The results of the functions.

-- by the place where the lines end, whether the last one has a line feed, and the parts that were read
abbrev pub ExplainsLines : Result (ℕ × Bool) ProgramFault → ReadSoFar → (old new said : List ℕ) → Type 0
ExplainsLines (Ok r) so_far old new said = (new ≡ old) × (said ≡ explanation_at_end so_far r.0 r.1)
ExplainsLines (Err program_fault.OutOfMemory) so_far old new said = Unit {0}
ExplainsLines (Err (program_fault.Line number fault)) so_far old new said = new ≡ old ++ said

abbrev pub ExplainsProgram : Result Litmus ProgramFault → (old new said : List ℕ) → Type 0
ExplainsProgram (Ok x) old new said = (new ≡ old) × (said ≡ [])
ExplainsProgram (Err program_fault.OutOfMemory) old new said = Unit {0}
ExplainsProgram (Err (program_fault.Line number fault)) old new said = new ≡ old ++ said
