-- Keys by their places: those that wait, and those that are refused since an allocation for a later round failed.
--     many_waiting, one_waiting    so many keys that wait, and one more
--     refused_so_far               the keys before a place are refused, and now the next one is
use Rattle.jc_rounds.proofs.Common.{◌≡◌, ◌<◌, ◌+◌, ◌++◌, ℕ, zero, suc, List, [], ◌∷◌, length, map, set, take, drop, get_or, refl, ap, ◌∙◌, arith, KeyProgress, Waiting, all_waiting, refused_if_waiting}

pub many_waiting : (n : ℕ) → length (all_waiting n) ≡ n
many_waiting zero = refl
many_waiting (suc n) = ap suc (many_waiting n)

waiting_next : (n : ℕ) → all_waiting n ++ Waiting ∷ [] ≡ all_waiting (suc n)
waiting_next zero = refl
waiting_next (suc n) = ap (λ ps. Waiting ∷ ps) (waiting_next n)

pub one_waiting : (n : ℕ) → all_waiting n ++ Waiting ∷ [] ≡ all_waiting (n + 1)
one_waiting n =
    let next : suc n ≡ n + 1 = omega arith in
    waiting_next n ∙ ap all_waiting next

refused_next : (ps : List KeyProgress) (i : ℕ) (d : KeyProgress) → i < length ps
    → set (map refused_if_waiting (take i ps) ++ drop i ps) i (refused_if_waiting (get_or (map refused_if_waiting (take i ps) ++ drop i ps) i d)) ≡ map refused_if_waiting (take (suc i) ps) ++ drop (suc i) ps
refused_next [] i d near = absurd (omega (arith, near))
refused_next (p ∷ ps) zero d near = refl
refused_next (p ∷ ps) (suc i) d near = ap (λ qs. refused_if_waiting p ∷ qs) (refused_next ps i d (omega (arith, near)))

pub refused_so_far : (ps : List KeyProgress) (i : ℕ) (d : KeyProgress) → i < length ps
    → set (map refused_if_waiting (take i ps) ++ drop i ps) i (refused_if_waiting (get_or (map refused_if_waiting (take i ps) ++ drop i ps) i d)) ≡ map refused_if_waiting (take (i + 1) ps) ++ drop (i + 1) ps
refused_so_far ps i d near =
    let next : suc i ≡ i + 1 = omega arith in
    refused_next ps i d near ∙ ap (λ n. map refused_if_waiting (take n ps) ++ drop n ps) next
