-- Stripes in a list, by their numbers.
use Rattle.jc_world.proofs.Common.{◌≡◌, ℕ, suc, ◌+◌, ◌-◌, ◌<◌, List, [], ◌∷◌, ◌++◌, length, get_or, IsSomeAnd, slice_get, Some, None, Option, sym, refl, ap, ◌∙◌, append_assoc, arith, slice_get_within, slice_get_read, Config, State, fresh_stripe, fresh_stripes}

-- what is there, by a condition on it
pub some_of : {A : Type 0} (o : Option A) (P : A → Type 0) → IsSomeAnd o P → (x : A) × (o ≡ Some x) × P x
some_of None P h = absurd h
some_of (Some x) P h = (x, refl, h)

pub within : (xs : List State) (i : ℕ) (P : State → Type 0) → IsSomeAnd (slice_get xs i) P → i < length xs
within xs i P h = let found = some_of (slice_get xs i) P h in slice_get_within xs i found.0 found.1

-- what is read at a place is what is there
pub at_index : (xs : List State) (i : ℕ) (x : State) (P : State → Type 0) → IsSomeAnd (slice_get xs i) P → x ≡ get_or xs i x → slice_get xs i ≡ Some x
at_index xs i x P h is = slice_get_read xs _ i x refl (within xs i P h) is

-- the empty stripes from a number on, one by one
next_empty : (config : Config) (number end : ℕ) → number < end → fresh_stripes config number (end - number) ≡ fresh_stripe config number ∷ fresh_stripes config (number + 1) (end - (number + 1))
next_empty config number end h = let e : end - number ≡ suc (end - (number + 1)) = omega arith in ap (fresh_stripes config number) e

pub made_more : (config : Config) (made : List State) (s : State) (number end : ℕ) → number < end → s ≡ fresh_stripe config number
    → (made ++ s ∷ []) ++ fresh_stripes config (number + 1) (end - (number + 1)) ≡ made ++ fresh_stripes config number (end - number)
made_more config made s number end h is =
    append_assoc made (s ∷ []) (fresh_stripes config (number + 1) (end - (number + 1)))
    ∙ ap (λ x. made ++ x ∷ fresh_stripes config (number + 1) (end - (number + 1))) is
    ∙ ap (λ xs. made ++ xs) (sym (next_empty config number end h))
