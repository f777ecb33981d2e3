-- Sessions over streams, from the bytes of a reader to the bytes of a writer.
--     prompt_end       a line feed, which ends the line of a prompt after which nothing was typed; none without prompts
--     cut_text         the text for the bytes after the last line feed: nothing if there are none, otherwise that the input cuts a
--                      line
--     LastText         both of them, at the end of the input
--     BeginsWithQuit   bytes begin with a line that ends a session
--     EndsDialogue     the end of a session: at such a line, or at the end of the input, with such a text
--     WrittenBy        the part of a text that was written by an error: all of it, or a prefix if it was the writer's
--     FitsLimit        how many bytes were read before an error: no more than a session may have if reading failed, one more if
--                      that is too much, and at most one more otherwise
--     StopsAtAnswer    of the lines that were answered, the answers to all but the last one were written whole
--     StopsAtOnce      where a failed write ends a session: after all answers were written; or, with no text for the end of the
--                      input, at the prompt, before anything is read, or at the answer to the last line that is answered
--     RunsDialogue     the input was read up to the session's end, no further than the limit, or a byte more if a line ended the
--                      session; each line of it was answered, and the saver was called for each line that asked for it, and for
--                      no other
--     LateCalls        calls of the saver without an answer: refused ones, after which an allocation failed
--     Stopped          the same up to an error: the bytes that were read, and those of its lines that were answered, which are all
--                      of them if reading failed or the input is too long; no line is answered after a failed write
use Rattle.std.specs.Prelude.{◌≡◌, ◌≤◌, ◌⊎◌, ◌+◌, ℕ, List, [], ◌∷◌, ◌++◌, false, length, take, Option}
use Rattle.std.specs.Io.KnownBytes.{Appends, Consumes, IsAtEnd}
use Rattle.jc_types.specs.declared.limits.TheConstants.{SCRIPT_MAX}
use Rattle.jc_text.specs.declared.fault.Fault.TheVariants.{CutLine}
use Rattle.jc_text.specs.Places.{complaint}
use Rattle.jc_shell.specs.declared.run.ShellFault.{ShellFault}
use Rattle.jc_shell.specs.declared.run.ShellFault.TheVariants.{OutOfMemory, Read, TooLong, Write}
use Rattle.jc_shell.specs.Saving.{AreRefused, Calls, SaveCall}
use Rattle.jc_shell.specs.Sessions.{Accepted, AnswersLine, AreAnswered, has_feed, next_line_number, nobody, script_of}
use Rattle.jc_shell.specs.ShellWords.{word_of}
use Rattle.jc_shell.specs.declared.words.Word.TheVariants.{Quit}

abbrev pub prompt_end : (prompt : List ℕ) → List ℕ
prompt_end [] = []
prompt_end (b ∷ bs) = 10 ∷ []

abbrev pub cut_text : (number : ℕ) (last : List ℕ) → List ℕ
cut_text number [] = []
cut_text number (b ∷ bs) = complaint number (b ∷ bs) CutLine

abbrev pub LastText : (prompt : List ℕ) → Accepted → (last text : List ℕ) → Type 0
LastText prompt a last text = text ≡ prompt_end prompt ++ cut_text (next_line_number a) last

abbrev pub BeginsWithQuit : (rest : List ℕ) → Type 0
BeginsWithQuit rest = (line : List ℕ) × (others : List ℕ) × (word_of line ≡ Quit) × (rest ≡ line ++ 10 ∷ others)

-- after: the bytes that the reader has left; rest: those that were read and aren't answered
abbrev pub EndsDialogue : (prompt : List ℕ) → Accepted → (rest text : List ℕ) (after : Option (List ℕ)) → Type 0
EndsDialogue prompt a rest text after =
    ((text ≡ []) × BeginsWithQuit rest)
    ⊎ ((has_feed rest ≡ false) × LastText prompt a rest text × IsAtEnd after)

abbrev pub WrittenBy : ShellFault → (said written : List ℕ) → Type 0
WrittenBy Write said written = (count : ℕ) × (count ≤ length said) × (written ≡ take count said)
WrittenBy fault said written = written ≡ said

abbrev pub FitsLimit : ShellFault → (read : List ℕ) → Type 0
FitsLimit Read read = length read ≤ SCRIPT_MAX
FitsLimit TooLong read = length read ≡ SCRIPT_MAX + 1
FitsLimit OutOfMemory read = length read ≤ SCRIPT_MAX + 1
FitsLimit Write read = length read ≤ SCRIPT_MAX + 1

-- a and c: the accepted lines before and after; front: what was written before these answers; out: all that was written
abbrev pub StopsAtAnswer : (prompt front : List ℕ) (a : Accepted) → List (List ℕ) → (answers : List ℕ) → List SaveCall
    → (c : Accepted) (out : List ℕ) → Type 0
StopsAtAnswer prompt front a lines answers calls c out =
    (before : List (List ℕ)) × (line : List ℕ) × (said : List ℕ) × (answer : List ℕ)
    × (now : List SaveCall) × (later : List SaveCall) × (b : Accepted)
    × (lines ≡ before ++ line ∷ []) × AreAnswered prompt a before said now b × AnswersLine b line answer later c
    × (answers ≡ said ++ (answer ++ prompt)) × (calls ≡ now ++ later) × (length (front ++ said) ≤ length out)

-- rest: the bytes that were read and aren't answered; text: that for the end of the input
abbrev pub StopsAtOnce : (prompt : List ℕ) → List (List ℕ) → (rest answers text : List ℕ) → List SaveCall → Accepted
    → (out : List ℕ) → Type 0
StopsAtOnce prompt lines rest answers text calls c out =
    (length (prompt ++ answers) ≤ length out)
    ⊎ ((text ≡ []) × (((lines ≡ []) × (rest ≡ [])) ⊎ StopsAtAnswer prompt prompt nobody lines answers calls c out))

-- before and after: the bytes that the reader has left; old and new: those that the writer has; earlier and later: the calls of the
-- saver
pub record RunsDialogue (prompt : List ℕ) (before after old new : Option (List ℕ))
    (earlier later : Option (List SaveCall)) : Type 0 where
  pub lines : List (List ℕ)
  pub rest : List ℕ
  pub answers : List ℕ
  pub text : List ℕ
  pub calls : List SaveCall
  pub accepted : Accepted
  pub read : Consumes before after (script_of lines ++ rest)
  pub few : length (script_of lines ++ rest) ≤ SCRIPT_MAX + 1
  pub fits : has_feed rest ≡ false → length (script_of lines ++ rest) ≤ SCRIPT_MAX
  pub answered : AreAnswered prompt nobody lines answers calls accepted
  pub ends : EndsDialogue prompt accepted rest text after
  pub written : Appends old new ((prompt ++ answers) ++ text)
  pub saves : Calls earlier later calls

abbrev pub LateCalls : ShellFault → List SaveCall → Type 0
LateCalls OutOfMemory late = AreRefused late
LateCalls fault late = late ≡ []

pub record Stopped (prompt : List ℕ) (fault : ShellFault) (before after old new : Option (List ℕ))
    (earlier later : Option (List SaveCall)) : Type 0 where
  pub lines : List (List ℕ)
  pub rest : List ℕ
  pub answers : List ℕ
  pub text : List ℕ
  pub out : List ℕ
  pub calls : List SaveCall
  pub late : List SaveCall
  pub accepted : Accepted
  pub read : Consumes before after (script_of lines ++ rest)
  pub few : FitsLimit fault (script_of lines ++ rest)
  pub whole : (fault ≡ Read) ⊎ (fault ≡ TooLong) → has_feed rest ≡ false
  pub answered : AreAnswered prompt nobody lines answers calls accepted
  pub ends : (text ≡ []) ⊎ ((fault ≡ Write) × EndsDialogue prompt accepted rest text after)
  pub part : WrittenBy fault ((prompt ++ answers) ++ text) out
  pub halts : fault ≡ Write → StopsAtOnce prompt lines rest answers text calls accepted out
  pub written : Appends old new out
  pub unanswered : LateCalls fault late
  pub saves : Calls earlier later (calls ++ late)
