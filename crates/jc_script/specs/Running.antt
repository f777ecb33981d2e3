-- Runs: from what a reader gives to what a writer takes.
--     Explains           what is said of a script's end: nothing of a clean one, and else the complaint about the line of that
--                        number with the fault that the transcript ends with
--     RunsScript         the input was read to its end, its transcript written, and what is said of its end told
--     BreaksOffScript    the same, up to a write that failed
use Rattle.std.specs.Prelude.{◌≡◌, ◌≤◌, ℕ, ◌+◌, List, ◌∷◌, ◌++◌, take, length, Option}
use Rattle.std.specs.Io.KnownBytes.{Appends}
use Rattle.jc_text.specs.declared.fault.Fault.{Fault}
use Rattle.jc_text.specs.Input.{ReadsAll}
use Rattle.jc_text.specs.Pieces.{pieces_of}
use Rattle.jc_text.specs.Places.{complaint}
use Rattle.jc_text.specs.Printing.{fault_line}
use Rattle.jc_script.specs.declared.run.RunEnd.{RunEnd}
use Rattle.jc_script.specs.declared.run.RunEnd.TheVariants.{Clean, LineFault}
use Rattle.jc_script.specs.Transcript.{IsTranscript}

abbrev pub Explains : (input out old new : List ℕ) → RunEnd → Type 0
Explains input out old new Clean = new ≡ old
Explains input out old new (LineFault number) =
    (before : List (List ℕ)) × (line : List ℕ) × (after : List (List ℕ)) × (printed : List ℕ) × (fault : Fault)
    × (pieces_of input ≡ before ++ line ∷ after) × (number ≡ length before + 1)
    × (out ≡ printed ++ fault_line number fault) × (new ≡ old ++ complaint number line fault)

pub record RunsScript (before after old new : Option (List ℕ)) (old_told told : List ℕ) (end : RunEnd) : Type 0 where
  pub input : List ℕ
  pub read : ReadsAll before after input
  pub out : List ℕ
  pub transcript : IsTranscript input out end
  pub written : Appends old new out
  pub explained : Explains input out old_told told end

pub record BreaksOffScript (before after old new : Option (List ℕ)) : Type 0 where
  pub input : List ℕ
  pub read : ReadsAll before after input
  pub out : List ℕ
  pub end : RunEnd
  pub transcript : IsTranscript input out end
  pub count : ℕ
  pub within : count ≤ length out
  pub written : Appends old new (take count out)
