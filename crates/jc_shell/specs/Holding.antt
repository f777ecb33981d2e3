-- The invariant of a session, by the lines that were accepted.
--     PlaysOn   a script that begins with the accepted lines is played on from this world
--     Holds     a session has the script of the accepted lines, the count of those lines, and such a world
use Rattle.std.specs.Prelude.{◌≡◌, ℕ, List, ◌++◌, length}
use Rattle.jc_text.specs.Pieces.{pieces_of}
use Rattle.jc_script.specs.declared.run.RunEnd.{RunEnd}
use Rattle.jc_script.specs.Transcript.{IsTranscript, OpenedWorld, Transcript}
use Rattle.jc_shell.specs.Sessions.{Accepted, next_line_number, script_of}

abbrev pub PlaysOn : Accepted → OpenedWorld → Type 0
PlaysOn a world =
    (rest out : List ℕ) (end : RunEnd) → Transcript world (next_line_number a) (pieces_of rest) out end
    → IsTranscript (script_of a.lines ++ rest) (a.shown ++ out) end

pub record Holds (a : Accepted) (script : List ℕ) (lines : ℕ) (world : OpenedWorld) : Type 0 where
  pub script_is : script ≡ script_of a.lines
  pub lines_is : lines ≡ length a.lines
  pub goes_on : PlaysOn a world
