-- A program from its first line on.
--     onto_the_last     an item more in the last of some threads
--     pushed            the same, of threads in a vector
--     next_line         a line that is read
--     at_fault          a line at fault
--     last_line         what is behind the last line feed
use Rattle.jc_litmus.proofs.Common.{◌≡◌, ◌∙◌, ap, sym, refl, ℕ, ◌+◌, List, [], ◌∷◌, ◌++◌, Result, Ok, Err, map, pieces_some, map-append, pieces_of, LineFault, after_line, ended, is_blank, onto_last, program_from, IsExplained, ReadSoFar, ReadsLines, then_on}
use Rattle.std.specs.Global.{Vec}
use Rattle.jc_explore.specs.declared.program.Item.{Item}
use Rattle.jc_litmus.specs.declared.line_error.LineError.{LineError}
use Rattle.jc_litmus.specs.declared.program.ProgramFault.{ProgramFault}
use Rattle.jc_litmus.specs.declared.program.ProgramFault.TheVariants as program_fault
use Rattle.jc_litmus.specs.LineResults.{ReadsAs}

pub onto_the_last : (one : Item) (threads : List (List Item)) (last : List Item) → onto_last one (threads ++ last ∷ []) ≡ threads ++ (last ++ one ∷ []) ∷ []
onto_the_last one [] last = refl
onto_the_last one (a ∷ []) last = refl
onto_the_last one (a ∷ b ∷ more) last = ap (λ (x : List (List Item)). a ∷ x) (onto_the_last one (b ∷ more) last)

pub pushed : (one : Item) (old front new : List (Vec Item)) (last changed : Vec Item) → old ≡ front ++ last ∷ [] → changed.items ≡ last.items ++ one ∷ [] → new ≡ front ++ changed ∷ []
    → map (λ t. t.items) new ≡ onto_last one (map (λ t. t.items) old)
pushed one old front new last changed cut put back =
    ap (λ (x : List (Vec Item)). map (λ t. t.items) x) back
    ∙ map-append (λ (t : Vec Item). t.items) front (changed ∷ [])
    ∙ ap (λ (x : List Item). map (λ t. t.items) front ++ x ∷ []) put
    ∙ sym (onto_the_last one (map (λ t. t.items) front) last.items)
    ∙ ap (λ (x : List (List Item)). onto_last one x) (sym (ap (λ (x : List (Vec Item)). map (λ t. t.items) x) cut ∙ map-append (λ (t : Vec Item). t.items) front (last ∷ [])))

-- a line that has more behind it
at_line : (so_far : ReadSoFar) (n : ℕ) (text after rest : List ℕ) → pieces_of rest ≡ text ∷ pieces_of after
    → program_from so_far n (pieces_of rest) ≡ then_on n (after_line so_far text) (λ new. program_from new (n + 1) (pieces_of after))
at_line so_far n text after rest cut =
    let s = pieces_some after in
    ap (λ (x : List (List ℕ)). program_from so_far n x) (cut ∙ ap (λ (x : List (List ℕ)). text ∷ x) s.2)
    ∙ ap (λ (x : List (List ℕ)). then_on n (after_line so_far text) (λ new. program_from new (n + 1) x)) (sym s.2)

pub next_line : (so_far new : ReadSoFar) (n : ℕ) (text after rest : List ℕ) → pieces_of rest ≡ text ∷ pieces_of after → after_line so_far text ≡ Ok new
    → program_from so_far n (pieces_of rest) ≡ program_from new (n + 1) (pieces_of after)
next_line so_far new n text after rest cut read =
    at_line so_far n text after rest cut
    ∙ ap (λ (r : Result ReadSoFar LineFault). then_on n r (λ new. program_from new (n + 1) (pieces_of after))) read

pub at_fault : (so_far new : ReadSoFar) (n : ℕ) (text after rest : List ℕ) (error : LineError) (old notes : List ℕ) (result : ProgramFault)
    → pieces_of rest ≡ text ∷ pieces_of after → ReadsAs {X = ReadSoFar} (Err error) (after_line so_far text) → IsExplained new.threads n text error old notes result
    → ReadsLines (Err result) new (program_from so_far n (pieces_of rest))
at_fault so_far new n text after rest error old notes program_fault.OutOfMemory cut read is = tt
at_fault so_far new n text after rest error old notes (program_fault.Line at fault) cut read is =
    let failed : after_line so_far text ≡ Err fault = rw is.0 at read in
    at_line so_far n text after rest cut
    ∙ ap (λ (r : Result ReadSoFar LineFault). then_on n r (λ new. program_from new (n + 1) (pieces_of after))) failed
    ∙ ap (λ (k : ℕ). Err (k, fault)) (sym is.1)

pub last_line : (so_far : ReadSoFar) (n : ℕ) (rest : List ℕ) → pieces_of rest ≡ rest ∷ [] → program_from so_far n (pieces_of rest) ≡ ended so_far n (is_blank rest)
last_line so_far n rest uncut = ap (λ (x : List (List ℕ)). program_from so_far n x) uncut
