-- Sessions: lines that are typed one after another, and the answer to each.
--     script_of              the script that lines make
--     has_feed               bytes have a line feed, so they are no line
--     Accepted               the lines that were accepted so far, and the answers to them
--     nobody                 nothing was typed yet
--     next_line_number       the number that the next line has in the script of the accepted ones
--     with_accepted          one more line was accepted, with its answer
--     IsLineAccepted         the line has no fault: the answers to the accepted lines and to it are the transcript of their
--                            script
--     IsLineRejected         the line has a fault: the transcript of the accepted lines and this one ends with the fault, the
--                            answer tells it as the run of that script does, and the line isn't accepted
--     IsSaved                the saver was called with a script and a name, and the answer says that it was saved, or shows the
--                            reason for which this call was refused
--     IsFront                the accepted lines are those of a script but its last one
--     HasFaultNow            a prefix of a script has a transcript that ends with a fault: in another one memory was there, or
--                            wasn't
--     IsUndone               the last accepted line is taken back, and those before it were played anew; or there is none; or one
--                            of those before has a fault this time, and nothing changes
--     AnswersWord            the answer to a line, by what it asks for
--     AnswersLine            the answer to a line, by the line alone
--     AreAnswered            lines one after another, each with its answer, and the prompt after that
--     TranscriptsAreShown    whatever is typed, the answers to the accepted lines are the transcript of their script
use Rattle.std.specs.Prelude.{◌≡◌, ◌⊎◌, ◌==◌, ◌+◌, ℕ, List, [], ◌∷◌, ◌++◌, length, Bool, false, None, Some}
use Rattle.std.specs.List.{flat_map, list_any}
use Rattle.jc_text.specs.declared.fault.Fault.{Fault}
use Rattle.jc_text.specs.Places.{complaint}
use Rattle.jc_text.specs.Printing.{fault_line}
use Rattle.jc_script.specs.declared.run.RunEnd.TheVariants.{Clean, LineFault}
use Rattle.jc_script.specs.Transcript.{IsTranscript}
use Rattle.jc_shell.specs.declared.words.Word.{Word}
use Rattle.jc_shell.specs.declared.words.Word.TheVariants.{Help, HelpOn, Quit, Save, Undo, Line}
use Rattle.jc_shell.specs.Saving.{SaveCall}
use Rattle.jc_shell.specs.ShellWords.{help_text, line_help, name_in, no_undo_text, not_saved_text, not_undone_text, saved_text}
use Rattle.jc_shell.specs.ShellWords.{undone_text, word_of}

-- 1. The accepted lines.

abbrev pub script_of : List (List ℕ) → List ℕ
script_of lines = flat_map (λ line. line ++ 10 ∷ []) lines

abbrev pub has_feed : List ℕ → Bool
has_feed bytes = list_any (λ b. b == 10) bytes

pub record Accepted : Type 0 where
  pub lines : List (List ℕ)
  pub shown : List ℕ

abbrev pub nobody : Accepted
nobody = record { lines = []; shown = [] }

abbrev pub next_line_number : Accepted → ℕ
next_line_number a = length a.lines + 1

abbrev pub with_accepted : Accepted → (line answer : List ℕ) → Accepted
with_accepted a line answer = record { lines = a.lines ++ line ∷ []; shown = a.shown ++ answer }

-- 2. The answer to a line.

-- a: the accepted lines before it; b: those after it
abbrev pub IsLineAccepted : (a : Accepted) (line answer : List ℕ) (b : Accepted) → Type 0
IsLineAccepted a line answer b =
    (b ≡ with_accepted a line answer)
    × IsTranscript (script_of (a.lines ++ line ∷ [])) (a.shown ++ answer) Clean

abbrev pub IsLineRejected : (a : Accepted) (line answer : List ℕ) (b : Accepted) → Type 0
IsLineRejected a line answer b =
    (b ≡ a)
    × ((fault : Fault)
    × IsTranscript (script_of (a.lines ++ line ∷ [])) (a.shown ++ fault_line (next_line_number a) fault)
    (LineFault (next_line_number a))
    × (answer ≡ complaint (next_line_number a) line fault))

abbrev pub IsSaved : (script name answer : List ℕ) → List SaveCall → Type 0
IsSaved script name answer calls =
    ((answer ≡ saved_text name) × (calls ≡ record { name = name; script = script; refusal = None } ∷ []))
    ⊎ ((why : List ℕ) × (answer ≡ not_saved_text name why)
    × (calls ≡ record { name = name; script = script; refusal = Some why } ∷ []))

abbrev pub IsFront : Accepted → (script : List ℕ) → Type 0
IsFront b script = (last : List ℕ) × (has_feed last ≡ false) × (script ≡ script_of b.lines ++ (last ++ 10 ∷ []))

abbrev pub HasFaultNow : (script : List ℕ) → Type 0
HasFaultNow script =
    (lines : List (List ℕ)) × (line : List ℕ) × (others : List ℕ) × (shown : List ℕ) × (number : ℕ)
    × (script ≡ script_of lines ++ (line ++ 10 ∷ others))
    × IsTranscript (script_of (lines ++ line ∷ [])) shown (LineFault number)

-- a: the accepted lines before it; b: those after it
abbrev pub IsUndone : (a : Accepted) (answer : List ℕ) (b : Accepted) → Type 0
IsUndone a answer b =
    ((a.lines ≡ []) × (answer ≡ no_undo_text) × (b ≡ a))
    ⊎ (((last : List ℕ) × (has_feed last ≡ false) × (script_of a.lines ≡ script_of b.lines ++ (last ++ 10 ∷ []))
    × IsTranscript (script_of b.lines) b.shown Clean × (answer ≡ undone_text last))
    ⊎ (HasFaultNow (script_of a.lines) × (answer ≡ not_undone_text) × (b ≡ a)))

-- a line that ends the session has no answer
abbrev pub AnswersWord : Word → (a : Accepted) (line answer : List ℕ) → List SaveCall → (b : Accepted) → Type 0
AnswersWord Help a line answer calls b = (answer ≡ help_text) × (calls ≡ []) × (b ≡ a)
AnswersWord HelpOn a line answer calls b = (answer ≡ line_help (name_in line)) × (calls ≡ []) × (b ≡ a)
AnswersWord Quit a line answer calls b = ⊥
AnswersWord Save a line answer calls b = IsSaved (script_of a.lines) (name_in line) answer calls × (b ≡ a)
AnswersWord Undo a line answer calls b = (calls ≡ []) × IsUndone a answer b
AnswersWord Line a line answer calls b = (calls ≡ []) × (IsLineAccepted a line answer b ⊎ IsLineRejected a line answer b)

abbrev pub AnswersLine : (a : Accepted) (line answer : List ℕ) → List SaveCall → (b : Accepted) → Type 0
AnswersLine a line answer calls b = AnswersWord (word_of line) a line answer calls b

-- 3. Lines one after another.

abbrev pub AreAnswered : (prompt : List ℕ) (a : Accepted) → List (List ℕ) → (out : List ℕ) → List SaveCall → (b : Accepted) → Type 0
AreAnswered prompt a [] out calls c = (out ≡ []) × (calls ≡ []) × (c ≡ a)
AreAnswered prompt a (line ∷ lines) out calls c =
    (answer : List ℕ) × (rest : List ℕ) × (now : List SaveCall) × (later : List SaveCall) × (b : Accepted)
    × (has_feed line ≡ false) × AnswersLine a line answer now b × AreAnswered prompt b lines rest later c
    × (out ≡ (answer ++ prompt) ++ rest) × (calls ≡ now ++ later)

-- 4. The laws.

abbrev pub TranscriptsAreShown : Type 0
TranscriptsAreShown =
    (prompt : List ℕ) (lines : List (List ℕ)) (out : List ℕ) (calls : List SaveCall) (b : Accepted)
    → AreAnswered prompt nobody lines out calls b → IsTranscript (script_of b.lines) b.shown Clean
