-- The stripes of a world, once one is set.
use Rattle.jc_world.proofs.Common.{◌≡◌, ℕ, zero, suc, ◌%◌, ◌<◌, ◌≤◌, List, [], ◌∷◌, length, get_or, nat_le, slice_get, slice_set, Some, Ok, sum, Option, sym, refl, ap, subst, arith, leb-true, and_parts, slice_get-get_or, is_between, check, Config, STRIPES_MAX, Bytes, State, IsWorldShaped, WorldState, home, stripe_for, fresh_stripe}
use Rattle.jc_types.proofs.CallerLemmas.{in_limits, some_stripe}

-- what stays true from a stripe to the one that is put in its place stays true at every number
pub at_stripe_apart : (stripes : List State) (i j : ℕ) (from next : State) (P : Option State → Option State → Type 0) → slice_get stripes i ≡ Some from → (i ≡ j → P (Some from) (Some next)) → ((i ≡ j → ⊥) → P (slice_get stripes j) (slice_get stripes j))
    → P (slice_get stripes j) (slice_get (slice_set stripes i next) j)
at_stripe_apart [] i j from next P h same other = cc
at_stripe_apart (x ∷ xs) zero zero from next P h same other = subst (λ o. P o (Some next)) (sym h) (same refl)
at_stripe_apart (x ∷ xs) zero (suc j) from next P h same other = other (λ e. omega arith)
at_stripe_apart (x ∷ xs) (suc i) zero from next P h same other = other (λ e. omega arith)
at_stripe_apart (x ∷ xs) (suc i) (suc j) from next P h same other = at_stripe_apart xs i j from next P h (λ e. same (ap suc e)) (λ apart. other (λ e. apart (omega arith)))

-- the same, whether the numbers are one or not
pub at_stripe : (stripes : List State) (i j : ℕ) (from next : State) (P : Option State → Option State → Type 0) → slice_get stripes i ≡ Some from → P (Some from) (Some next) → P (slice_get stripes j) (slice_get stripes j)
    → P (slice_get stripes j) (slice_get (slice_set stripes i next) j)
at_stripe stripes i j from next P h same other = at_stripe_apart stripes i j from next P h (λ e. same) (λ apart. other)

-- a stripe that is put in place is there
pub stripe_put : (stripes : List State) (i : ℕ) (from next : State) → slice_get stripes i ≡ Some from → slice_get (slice_set stripes i next) i ≡ Some next
stripe_put [] i from next h = cc
stripe_put (x ∷ xs) zero from next h = refl
stripe_put (x ∷ xs) (suc i) from next h = stripe_put xs i from next h

-- and no more than a cache may have
pub few_stripes : (config : Config) → check config ≡ Ok tt → config.stripes ≤ STRIPES_MAX
few_stripes config h = leb-true config.stripes STRIPES_MAX ((and_parts (nat_le 1 config.stripes) (nat_le config.stripes STRIPES_MAX) (in_limits (is_between 1 STRIPES_MAX config.stripes) _ _ h)).1)

-- a remainder is a place in a list of that length
within : (n count stripes : ℕ) → 0 < stripes → count ≡ stripes → n % stripes < count
within n count stripes some same = omega arith

-- each key has a stripe
pub home_stripe : (w : WorldState) (key : Bytes) → IsWorldShaped w → (s : State) × (stripe_for w key ≡ Some s)
home_stripe w key shape = (
  get_or w.stripes (home w key) (fresh_stripe w.config 0),
  slice_get-get_or w.stripes (home w key) (fresh_stripe w.config 0) (within (sum key) (length w.stripes) w.config.stripes (some_stripe w.config shape.config_fits) shape.count),
)
