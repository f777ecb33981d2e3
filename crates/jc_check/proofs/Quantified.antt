-- Lists by their first element.
use Rattle.std.proofs.Common.{zero, suc, ◌⊎◌, inl, inr, List, [], ◌∷◌, ◌++◌, sym, subst, refl, arith}
use Rattle.std.specs.List.{All, AllPairs, Any}

pub all-cons : {X : Type 0} (P : X → Type 0) (x : X) (xs : List X) → P x → All P xs → All P (x ∷ xs)
all-cons P x xs first rest zero d h = first
all-cons P x xs first rest (suc k) d h = rest k d (omega (arith, h))

pub all-tail : {X : Type 0} (P : X → Type 0) (x : X) (xs : List X) → All P (x ∷ xs) → All P xs
all-tail P x xs all k d h = all (suc k) d (omega (arith, h))

pub pairs-cons : {X : Type 0} (R : X → X → Type 0) (x : X) (xs : List X) → All (R x) xs → AllPairs R xs → AllPairs R (x ∷ xs)
pairs-cons R x xs first rest i zero d less h = absurd (omega (arith, less))
pairs-cons R x xs first rest zero (suc j) d less h = first j d (omega (arith, h))
pairs-cons R x xs first rest (suc i) (suc j) d less h = rest i j d (omega (arith, less)) (omega (arith, h))

pub pairs-head : {X : Type 0} (R : X → X → Type 0) (x : X) (xs : List X) → AllPairs R (x ∷ xs) → All (R x) xs
pairs-head R x xs pairs k d h = pairs 0 (suc k) d (omega (arith, h)) (omega (arith, h))

pub pairs-tail : {X : Type 0} (R : X → X → Type 0) (x : X) (xs : List X) → AllPairs R (x ∷ xs) → AllPairs R xs
pairs-tail R x xs pairs i j d less h = pairs (suc i) (suc j) d (omega (arith, less)) (omega (arith, h))

pub any-here : {X : Type 0} (P : X → Type 0) (x : X) (xs : List X) → P x → Any P (x ∷ xs)
any-here P x xs is = (0, x, omega arith, refl, is)

pub any-there : {X : Type 0} (P : X → Type 0) (x : X) (xs : List X) → Any P xs → Any P (x ∷ xs)
any-there P x xs any = (suc any.0, any.1, omega (arith, any.2), any.3, any.4)

pub any-either : {X : Type 0} (P : X → Type 0) (x : X) (xs : List X) → Any P (x ∷ xs) → P x ⊎ Any P xs
any-either P x xs (zero, y, h, is, holds) = inl (subst P (sym is) holds)
any-either P x xs (suc k, y, h, is, holds) = inr (k, y, omega (arith, h), is, holds)

pub any-push : {X : Type 0} (P : X → Type 0) (xs : List X) (x : X) → Any P (xs ++ x ∷ []) → Any P xs ⊎ P x
any-push P [] x any = elim (any-either P x [] any) [ inl here ↦ inr here | inr none ↦ absurd (omega (arith, none.2)) ]
any-push P (y ∷ ys) x any =
    elim (any-either P y (ys ++ x ∷ []) any) [
      | inl here ↦ inl (any-here P y ys here)
      | inr rest ↦ elim (any-push P ys x rest) [ inl later ↦ inl (any-there P y ys later) | inr last ↦ inr last ]
    ]
