-- What is told of a program's lines, from the first one on.
--     next_told                  a line that is read
--     told_at_fault              a line at fault
--     last_told                  what is behind the last line feed
--     told_lines                 a fault of a line, of the whole text
--     read_at_end, told_at_end   a fault that no line has, as the result, and what is told of it
--     told_if_open               nothing is told of a whole program
--     told_if_closed             of a text without an `open` that is told
use Rattle.jc_litmus.proofs.Common.{◌≡◌, ◌∙◌, ap, sym, refl, ℕ, ◌+◌, List, [], ◌∷◌, ◌++◌, Bool, Option, None, Some, Result, Ok, Err, pieces_some, pieces_of, Fault, LineFault, after_line, is_blank, ExplainsLines, ExplainsProgram, IsExplained, explanation, explanation_at_end, explanation_from, explanation_if_open, explanation_or, ReadSoFar}
use Rattle.jc_types.specs.declared.config.Config.{Config}
use Rattle.jc_text.specs.declared.fault.Fault.TheVariants.{NotOpen}
use Rattle.jc_litmus.specs.declared.line_error.LineError.{LineError}
use Rattle.jc_litmus.specs.declared.line_error.LineError.TheVariants as errors
use Rattle.jc_litmus.specs.declared.program.LineFault.TheVariants.{Script}
use Rattle.jc_litmus.specs.declared.program.Litmus.{Litmus}
use Rattle.jc_litmus.specs.declared.program.ProgramFault.{ProgramFault}
use Rattle.jc_litmus.specs.declared.program.ProgramFault.TheVariants as program_fault
use Rattle.jc_litmus.specs.LineResults.{KeepsAtFault, ReadsAs}
use Rattle.jc_litmus.specs.Program.{ProgramValue, ReadsProgram, program_if}

-- a line that has more behind it
at_line : (so_far : ReadSoFar) (n : ℕ) (text after rest : List ℕ) → pieces_of rest ≡ text ∷ pieces_of after
    → explanation_from so_far n (pieces_of rest) ≡ explanation_or so_far n text (after_line so_far text) (λ new. explanation_from new (n + 1) (pieces_of after))
at_line so_far n text after rest cut =
    let s = pieces_some after in
    ap (λ (x : List (List ℕ)). explanation_from so_far n x) (cut ∙ ap (λ (x : List (List ℕ)). text ∷ x) s.2)
    ∙ ap (λ (x : List (List ℕ)). explanation_or so_far n text (after_line so_far text) (λ new. explanation_from new (n + 1) x)) (sym s.2)

pub next_told : (so_far new : ReadSoFar) (n : ℕ) (text after rest : List ℕ) → pieces_of rest ≡ text ∷ pieces_of after → after_line so_far text ≡ Ok new
    → explanation_from so_far n (pieces_of rest) ≡ explanation_from new (n + 1) (pieces_of after)
next_told so_far new n text after rest cut read =
    at_line so_far n text after rest cut
    ∙ ap (λ (r : Result ReadSoFar LineFault). explanation_or so_far n text r (λ new. explanation_from new (n + 1) (pieces_of after))) read

pub told_at_fault : (so_far new : ReadSoFar) (n : ℕ) (text after rest : List ℕ) (error : LineError) (old notes : List ℕ) (result : ProgramFault)
    → pieces_of rest ≡ text ∷ pieces_of after → ReadsAs {X = ReadSoFar} (Err error) (after_line so_far text)
    → KeepsAtFault {X = ReadSoFar} {Y = Unit {0}} so_far new (Err error) → IsExplained new.threads n text error old notes result
    → ExplainsLines (Err result) new old notes (explanation_from so_far n (pieces_of rest))
told_at_fault so_far new n text after rest error old notes program_fault.OutOfMemory cut read kept is = tt
told_at_fault so_far new n text after rest errors.Memory old notes (program_fault.Line at fault) cut read kept is = absurd cc
told_at_fault so_far new n text after rest (errors.Fault first) old notes (program_fault.Line at fault) cut read kept is =
    let same : first ≡ fault = cc in
    let failed : after_line so_far text ≡ Err fault = rw same at read in
    let here : explanation_from so_far n (pieces_of rest) ≡ explanation so_far.threads n text fault =
    at_line so_far n text after rest cut
    ∙ ap (λ (r : Result ReadSoFar LineFault). explanation_or so_far n text r (λ new. explanation_from new (n + 1) (pieces_of after))) failed in
    is.2 ∙ ap (λ (x : ReadSoFar). old ++ explanation x.threads n text fault) kept ∙ ap (λ (t : List ℕ). old ++ t) (sym here)

pub last_told : (so_far : ReadSoFar) (n : ℕ) (rest : List ℕ) → pieces_of rest ≡ rest ∷ [] → explanation_from so_far n (pieces_of rest) ≡ explanation_at_end so_far n (is_blank rest)
last_told so_far n rest uncut = ap (λ (x : List (List ℕ)). explanation_from so_far n x) uncut

pub told_lines : (e : ProgramFault) (so_far : ReadSoFar) (old new said : List ℕ) → ExplainsLines (Err e) so_far old new said → ExplainsProgram (Err e) old new said
told_lines program_fault.OutOfMemory so_far old new said is = tt
told_lines (program_fault.Line number fault) so_far old new said is = is

pub read_at_end : (n : ℕ) (f : Fault) (old new : List ℕ) (said : Result ProgramValue (ℕ × LineFault)) (result : ProgramFault) → said ≡ Err (n, Script f)
    → IsExplained [] n [] (errors.Fault (Script f)) old new result → ReadsProgram (Err result) said
read_at_end n f old new said program_fault.OutOfMemory said_is is = tt
read_at_end n f old new said (program_fault.Line at fault) said_is is =
    let same : Script f ≡ fault = cc in
    said_is ∙ ap (λ (x : LineFault). Err (n, x)) same ∙ ap (λ (k : ℕ). Err (k, fault)) (sym is.1)

pub told_at_end : (n : ℕ) (f : Fault) (old middle new said : List ℕ) (result : ProgramFault) → middle ≡ old → said ≡ explanation [] n [] (Script f)
    → IsExplained [] n [] (errors.Fault (Script f)) middle new result → ExplainsProgram (Err result) old new said
told_at_end n f old middle new said program_fault.OutOfMemory none said_is is = tt
told_at_end n f old middle new said (program_fault.Line at fault) none said_is is =
    let same : fault ≡ Script f = cc in
    is.2 ∙ ap (λ (t : List ℕ). t ++ explanation [] n [] fault) none
    ∙ ap (λ (x : LineFault). old ++ explanation [] n [] x) same ∙ ap (λ (t : List ℕ). old ++ t) (sym said_is)

pub told_if_open : (so_far : ReadSoFar) (n : ℕ) (config : Option Config) (x : ProgramValue) → program_if so_far config ≡ Some x → explanation_if_open n config ≡ []
told_if_open so_far n None x is = absurd cc
told_if_open so_far n (Some config) x is = refl

pub told_if_closed : (so_far : ReadSoFar) (n : ℕ) (config : Option Config) → program_if so_far config ≡ None → explanation_if_open n config ≡ explanation [] n [] (Script NotOpen)
told_if_closed so_far n None is = refl
told_if_closed so_far n (Some config) is = absurd cc
