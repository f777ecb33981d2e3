-- Runs, from the bytes of a reader to the bytes of a writer.
--     IsProgramAnswer         an output is the answer of an exploration of a program; each verdict in it, and the end, which is
--                             that of the expectations, has its meaning for all schedules
--     IsComplaint             an output names the first line of the input that is at fault, with its fault, and the end is
--                             `LineFault`
--     AnswersProgram          the answer to the program of the input's text, or the complaint about that text, and what is told of
--                             it
--     RunsExploration         the input was read to its end, and its answer written
--     BreaksOffExploration    the input was read to its end, and a prefix of its answer written, up to a write that failed
use Rattle.std.specs.Prelude.{◌≡◌, ◌≤◌, ◌⊎◌, ℕ, List, ◌++◌, take, length, Option, Ok, Err}
use Rattle.std.specs.List.{All}
use Rattle.std.specs.Io.KnownBytes.{Appends}
use Rattle.jc_explore.specs.declared.search.Explored.{Explored}
use Rattle.jc_explore.specs.Search.{HasExplored}
use Rattle.jc_text.specs.Input.{ReadsAll}
use Rattle.jc_litmus.specs.declared.run.LitmusEnd.{LitmusEnd}
use Rattle.jc_litmus.specs.declared.run.LitmusEnd.TheVariants.{LineFault}
use Rattle.jc_litmus.specs.declared.program.LineFault as faulty
use Rattle.jc_litmus.specs.declared.program.Litmus.{Litmus}
use Rattle.jc_litmus.specs.Judging.{end_of, verdict_on}
use Rattle.jc_litmus.specs.Meaning.{EndMeans, Means}
use Rattle.jc_litmus.specs.Outcomes.{exploration_text, fault_text}
use Rattle.jc_litmus.specs.Program.{program_of, value_of_program}
use Rattle.jc_litmus.specs.Explanations.{explanation_of}
use Rattle.jc_litmus.specs.UnknownValues.{warnings_text}

pub record IsProgramAnswer (budget : ℕ) (x : Litmus) (out : List ℕ) (end : LitmusEnd) : Type 0 where
  pub explored : Explored
  pub is_explored : HasExplored x.program budget explored
  pub out_is : out ≡ exploration_text budget x.program explored x.expectations.items
  pub verdicts : All (λ e. Means x.program e (verdict_on explored e)) x.expectations.items
  pub end_is : end ≡ end_of explored x.expectations.items
  pub means : EndMeans x.program x.expectations.items end

-- notes: the lines for people
pub record IsComplaint (input out notes : List ℕ) (end : LitmusEnd) : Type 0 where
  pub line : ℕ
  pub fault : faulty.LineFault
  pub is_first : program_of input ≡ Err (line, fault)
  pub out_is : out ≡ fault_text line fault
  pub notes_are : notes ≡ explanation_of input
  pub end_is : end ≡ LineFault

abbrev pub AnswersProgram : (budget : ℕ) (input out notes : List ℕ) → LitmusEnd → Type 0
AnswersProgram budget input out notes end =
    ((x : Litmus) × (program_of input ≡ Ok (value_of_program x)) × IsProgramAnswer budget x out end
    × (notes ≡ warnings_text x.program x.expectations.items))
    ⊎ IsComplaint input out notes end

pub record RunsExploration (budget : ℕ) (before after old new : Option (List ℕ)) (old_notes notes : List ℕ)
    (end : LitmusEnd) : Type 0 where
  pub input : List ℕ
  pub read : ReadsAll before after input
  pub out : List ℕ
  pub said : List ℕ
  pub answer : AnswersProgram budget input out said end
  pub written : Appends old new out
  pub notes_are : notes ≡ old_notes ++ said

pub record BreaksOffExploration (budget : ℕ) (before after old new : Option (List ℕ)) : Type 0 where
  pub input : List ℕ
  pub read : ReadsAll before after input
  pub out : List ℕ
  pub said : List ℕ
  pub end : LitmusEnd
  pub answer : AnswersProgram budget input out said end
  pub count : ℕ
  pub within : count ≤ length out
  pub written : Appends old new (take count out)
