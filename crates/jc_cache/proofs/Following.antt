-- Two generations that were ended one after the other.
--     past_snoc            the events of one generation more
--     nothing_more         a list of which another one is a prefix, and which is as long
--     at_number            a number below the last one is the count
--     generations_follow   the law
use Rattle.jc_cache.proofs.Common.{◌≡◌, ◌+◌, ◌<◌, ℕ, List, [], ◌∷◌, ◌++◌, length, min, sym, ap, ◌∙◌, append_assoc, append-nil, length-append, arith, nat_tests, LAST_NUMBER, Event, State, Generation, past_events, present_generation, GenerationsFollow}
use mathlib.Core.List.{IsPrefix}

past_snoc : (gs : List Generation) (g : Generation) → past_events (gs ++ g ∷ []) ≡ past_events gs ++ g.history
past_snoc [] g = append-nil g.history
past_snoc (h ∷ gs) g = ap (λ (es : List Event). h.history ++ es) (past_snoc gs g) ∙ sym (append_assoc h.history (past_events gs) g.history)

no_tail : {A : Type 0} (xs ys : List A) → length xs ≡ length (xs ++ ys) → xs ++ ys ≡ xs
no_tail xs [] long = append-nil xs
no_tail xs (y ∷ ys) long = absurd (let e = length-append xs (y ∷ ys) in omega arith)

nothing_more : {A : Type 0} (xs ys : List A) → IsPrefix xs ys → length xs ≡ length ys → ys ≡ xs
nothing_more xs ys p long = sym p.1 ∙ no_tail xs p.0 (long ∙ ap length (sym p.1))

at_number : (count last number : ℕ) → number ≡ min count last → number < last → count ≡ number
at_number count last number is below = grind (arith, nat_tests)

pub generations_follow : GenerationsFollow
generations_follow old left found new number events later below ends p ends' =
    let ended : left.ended ≡ old.ended ++ present_generation old ∷ [] = ap (λ (s : State). s.ended) ends.0.after in
    let first : length old.ended ≡ number = at_number (length old.ended) LAST_NUMBER number ends.1 (omega arith) in
    let second : length found.ended ≡ number + 1 = at_number (length found.ended) LAST_NUMBER (number + 1) ends'.1 below in
    let one_more : length left.ended ≡ number + 1 = ap length ended ∙ length-append old.ended (present_generation old ∷ []) ∙ ap (λ (n : ℕ). n + 1) first in
    let same : found.ended ≡ old.ended ++ present_generation old ∷ [] = nothing_more left.ended found.ended p (one_more ∙ sym second) ∙ ended in
    (λ i. past_events (same i) ++ sym ends'.2 i) ∙ ap (λ (es : List Event). es ++ later) (past_snoc old.ended (present_generation old))
