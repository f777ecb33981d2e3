-- What a test of all reservations, and of all events of a history, says.
--     all_not        one that fails a test at a place
--     all_more       a test of the first ones, and of one more
use Rattle.std.proofs.Common.{◌≡◌, ◌&&◌, ℕ, zero, suc, List, [], ◌∷◌, take, Bool, true, false, Option, None, Some, IsSomeAnd, option_map, ◌==◌, refl, sym, ap, ◌∙◌, slice_get}
use Rattle.std.proofs.lemmas.Bool.{eqb-true, and_parts, and_from, and_right}
use Rattle.std.specs.List.{list_all}
use Rattle.jc_inflight.specs.declared.joiner.Joiner.{Joiner}

pub all_not : {A : Type 0} (p : A → Bool) (xs : List A) (i : ℕ) (x : A) → slice_get xs i ≡ Some x → p x ≡ false → list_all p xs ≡ false
all_not p [] i x h n = cc
all_not p (y ∷ ys) zero x h n = let is : y ≡ x = cc in ap (λ b. b && list_all p ys) (ap p is ∙ n)
all_not p (y ∷ ys) (suc i) x h n = ap (λ b. p y && b) (all_not p ys i x h n) ∙ and_right (p y) false refl

pub all_more : {A : Type 0} (p : A → Bool) (xs : List A) (i : ℕ) (x : A) → slice_get xs i ≡ Some x → p x ≡ true → list_all p (take i xs) ≡ true → list_all p (take (suc i) xs) ≡ true
all_more p [] i x h t before = cc
all_more p (y ∷ ys) zero x h t before = let is : y ≡ x = cc in and_from _ _ (ap p is ∙ t) refl
all_more p (y ∷ ys) (suc i) x h t before =
    let parts = and_parts (p y) (list_all p (take i ys)) before in and_from _ _ parts.0 (all_more p ys i x h t parts.1)

-- the load that a joiner has joined
pub load_then : (o : Option Joiner) (load other : ℕ) → option_map (λ j. j.load) o ≡ Some load → (load == other) ≡ true → IsSomeAnd o (λ j. j.load ≡ other)
load_then None load other h t = cc
load_then (Some j) load other h t = let is : j.load ≡ load = cc in is ∙ eqb-true load other t

pub load_back : (o : Option Joiner) (load other : ℕ) → option_map (λ j. j.load) o ≡ Some load → IsSomeAnd o (λ j. j.load ≡ other) → load ≡ other
load_back None load other h t = cc
load_back (Some j) load other h t = let is : j.load ≡ load = cc in sym is ∙ t

pub no_load : (o : Option Joiner) (other : ℕ) → option_map (λ j. j.load) o ≡ None → IsSomeAnd o (λ j. j.load ≡ other) → ⊥
no_load None other h t = t
no_load (Some j) other h t = some_not j.load h
  where
    some_not : (load : ℕ) → Some load ≡ None → ⊥
    some_not load h = cc
