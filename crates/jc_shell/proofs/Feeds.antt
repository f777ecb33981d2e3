-- Line feeds of a script: a rest of one that has none is empty.
--     AreFed      each rest of some bytes that isn't empty has a line feed
--     fed_line    a line that has its end has one
--     no_feed     a rest of a script without one is empty
use Rattle.jc_shell.proofs.Common.{◌≡◌, ◌==◌, ◌||◌, ◌∙◌, ◌∷◌, ◌++◌, ℕ, Bool, List, [], true, false, ap, append_assoc, refl, subst, sym, has_feed, script_of}

AreFed : List ℕ → Type 0
AreFed [] = Unit {0}
AreFed (b ∷ bs) = (has_feed (b ∷ bs) ≡ true) × AreFed bs

or_true : (b : Bool) → (b || true) ≡ true
or_true true = refl
or_true false = refl

pub fed_line : (line rest : List ℕ) → has_feed (line ++ 10 ∷ rest) ≡ true
fed_line [] rest = refl
fed_line (b ∷ bs) rest = ap (λ (x : Bool). (b == 10) || x) (fed_line bs rest) ∙ or_true (b == 10)

line_is_fed : (line rest : List ℕ) → AreFed rest → AreFed (line ++ 10 ∷ rest)
unfolding AreFed
line_is_fed [] rest fed = (refl, fed)
line_is_fed (b ∷ bs) rest fed = (fed_line (b ∷ bs) rest, line_is_fed bs rest fed)

script_is_fed : (lines : List (List ℕ)) → AreFed (script_of lines)
unfolding AreFed
script_is_fed [] = tt
script_is_fed (line ∷ lines) =
    subst (λ (t : List ℕ). AreFed t) (sym (append_assoc line (10 ∷ []) (script_of lines))) (line_is_fed line (script_of lines) (script_is_fed lines))

rest_is_fed : (front rest : List ℕ) → AreFed (front ++ rest) → AreFed rest
unfolding AreFed
rest_is_fed [] rest fed = fed
rest_is_fed (b ∷ bs) rest fed = rest_is_fed bs rest fed.1

empty_if_fed : (rest : List ℕ) → AreFed rest → has_feed rest ≡ false → rest ≡ []
unfolding AreFed
empty_if_fed [] fed none = refl
empty_if_fed (b ∷ bs) fed none = absurd cc

pub no_feed : (lines : List (List ℕ)) (front rest : List ℕ) → script_of lines ≡ front ++ rest → has_feed rest ≡ false → rest ≡ []
no_feed lines front rest is none = empty_if_fed rest (rest_is_fed front rest (subst (λ (t : List ℕ). AreFed t) is (script_is_fed lines))) none
