-- A record from its first line on.
--     next_line    a line that is read
--     at_fault     a line at fault
--     last_line    what is behind the last line feed
use Rattle.jc_record.proofs.Common.{◌≡◌, ◌∙◌, ap, sym, ℕ, ◌+◌, List, [], ◌∷◌, Result, Ok, Err}
use Rattle.jc_text.proofs.CallerLemmas.{pieces_some}
use Rattle.jc_text.specs.Pieces.{pieces_of}
use Rattle.jc_text.specs.Lines.{Gives}
use Rattle.jc_text.specs.declared.fault.Fault.{Fault}
use Rattle.jc_text.specs.declared.fault.ReadError.{ReadError}
use Rattle.jc_text.specs.declared.fault.ReadError.TheVariants as errors
use Rattle.jc_record.specs.Reading.{after_line, ended, fault_at, is_blank, record_from, then_on, ReadSoFar, ReadsLines}

-- a line that has more behind it
at_line : (so_far : ReadSoFar) (n : ℕ) (text after rest : List ℕ) → pieces_of rest ≡ text ∷ pieces_of after
    → record_from so_far n (pieces_of rest) ≡ then_on n (after_line so_far n text) (λ new. record_from new (n + 1) (pieces_of after))
at_line so_far n text after rest cut =
    let s = pieces_some after in
    ap (λ (x : List (List ℕ)). record_from so_far n x) (cut ∙ ap (λ (x : List (List ℕ)). text ∷ x) s.2)
    ∙ ap (λ (x : List (List ℕ)). then_on n (after_line so_far n text) (λ new. record_from new (n + 1) x)) (sym s.2)

pub next_line : (so_far new : ReadSoFar) (n : ℕ) (text after rest : List ℕ) → pieces_of rest ≡ text ∷ pieces_of after → after_line so_far n text ≡ Ok new
    → record_from so_far n (pieces_of rest) ≡ record_from new (n + 1) (pieces_of after)
next_line so_far new n text after rest cut read =
    at_line so_far n text after rest cut
    ∙ ap (λ (r : Result ReadSoFar Fault). then_on n r (λ new. record_from new (n + 1) (pieces_of after))) read

pub at_fault : (so_far new : ReadSoFar) (n : ℕ) (text after rest : List ℕ) (error : ReadError) → pieces_of rest ≡ text ∷ pieces_of after
    → Gives {X = ReadSoFar} (Err error) (after_line so_far n text) → ReadsLines (Err (fault_at n error)) new (record_from so_far n (pieces_of rest))
at_fault so_far new n text after rest errors.Memory cut read = tt
at_fault so_far new n text after rest (errors.Fault fault) cut read =
    at_line so_far n text after rest cut
    ∙ ap (λ (r : Result ReadSoFar Fault). then_on n r (λ new. record_from new (n + 1) (pieces_of after))) read

pub last_line : (so_far : ReadSoFar) (n : ℕ) (rest : List ℕ) → pieces_of rest ≡ rest ∷ [] → record_from so_far n (pieces_of rest) ≡ ended so_far n (is_blank rest)
last_line so_far n rest uncut = ap (λ (x : List (List ℕ)). record_from so_far n x) uncut
