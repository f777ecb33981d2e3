-- A transcript, from its first line on.
--     at_fault, at_line, at_end     what it is at a line with a fault, at another, and behind the last line
--     after_line      what completes the rest after a line completes the rest before it
--     IsAt, at_next   the rest of a script begins at the line with a number; and so does what follows that line
--     explains        what is said of a fault of that line
use Rattle.jc_script.proofs.Common.{◌≡◌, ◌∙◌, ℕ, ◌+◌, List, [], ◌∷◌, ◌++◌, length, Some, inl, inr, refl, sym, ap, arith, append_assoc, length-append, Fault, RunEnd, Clean, LineFault, pieces_of, fault_line, complaint, OpenedWorld, Prints, Transcript, IsTranscript, fault_of, Explains}
use Rattle.jc_text.proofs.CallerLemmas.{pieces_some}

pub at_fault : (old : OpenedWorld) (n : ℕ) (line after : List ℕ) (pieces : List (List ℕ)) (f : Fault) → pieces ≡ line ∷ pieces_of after → fault_of old line ≡ Some f → Transcript old n pieces (fault_line n f) (LineFault n)
at_fault old n line after pieces f e h =
    let s = pieces_some after in
    rw (e, s.2) (inr (f, h, refl, refl))

pub at_line : (old new : OpenedWorld) (n : ℕ) (line after : List ℕ) (pieces : List (List ℕ)) (text rest : List ℕ) (end : RunEnd) → pieces ≡ line ∷ pieces_of after → Prints old line text new → Transcript new (n + 1) (pieces_of after) rest end → Transcript old n pieces (text ++ rest) end
at_line old new n line after pieces text rest end e h t =
    let s = pieces_some after in
    rw (e, s.2) (inl (text, rest, new, h, rw s.2 at t, refl))

-- what completes the rest after a line completes the rest before it
pub after_line : (input rest : List ℕ) (old new : OpenedWorld) (n : ℕ) (line after before text printed : List ℕ)
    → ((out : List ℕ) (end : RunEnd) → Transcript old n (pieces_of rest) out end → IsTranscript input (before ++ out) end)
    → pieces_of rest ≡ line ∷ pieces_of after → Prints old line text new → printed ≡ before ++ text
    → (out : List ℕ) (end : RunEnd) → Transcript new (n + 1) (pieces_of after) out end → IsTranscript input (printed ++ out) end
after_line input rest old new n line after before text printed completes cut prints e out end more =
    rw (e, append_assoc before text out) (completes (text ++ out) end (at_line old new n line after (pieces_of rest) text out end cut prints more))

pub at_end : (old : OpenedWorld) (n : ℕ) (rest : List ℕ) → length rest ≡ 0 → Transcript old n (pieces_of rest) [] Clean
at_end old n [] e = (refl, refl)
at_end old n (b ∷ bs) e = absurd (omega arith)

-- ---- the line with a number

-- it is the first piece of the rest
abbrev pub IsAt : (input : List ℕ) (number : ℕ) (rest : List ℕ) → Type 0
IsAt input number rest = (before : List (List ℕ)) × (pieces_of input ≡ before ++ pieces_of rest) × (number ≡ length before + 1)

pub at_next : (input rest line after : List ℕ) (n : ℕ) → IsAt input n rest → pieces_of rest ≡ line ∷ pieces_of after → IsAt input (n + 1) after
at_next input rest line after n (before, e, count) cut = (
  before ++ line ∷ [],
  e ∙ ap (λ (ps : List (List ℕ)). before ++ ps) cut ∙ sym (append_assoc before (line ∷ []) (pieces_of after)),
  rw (length-append before (line ∷ [])) (omega (arith, count)),
)

pub explains : (input rest line : List ℕ) (after : List (List ℕ)) (n : ℕ) (f : Fault) (printed out old new : List ℕ)
    → IsAt input n rest → pieces_of rest ≡ line ∷ after → out ≡ printed ++ fault_line n f → new ≡ old ++ complaint n line f
    → Explains input out old new (LineFault n)
explains input rest line after n f printed out old new (before, e, count) cut out_is new_is =
    (before, line, after, printed, f, e ∙ ap (λ (ps : List (List ℕ)). before ++ ps) cut, count, out_is, new_is)
