-- The stripes at which a call hasn't looked yet.
--     missed         one that it hasn't looked at is left
--     unseen         it hasn't looked at a stripe behind those that it has looked at
--     seen_below     behind a look at that one, they are those before the next
use Rattle.jc_world.proofs.Common.{◌≡◌, ℕ, zero, suc, ◌+◌, ◌<◌, Bool, true, false, ◌&&◌, ◌||◌, List, [], ◌∷◌, ◌++◌, ◌==◌, sym, refl, ap, ◌∙◌, arith, eqb-true, eqb-false, and_parts, false_from_ne_true, list_any-append, has_looked, has_looked_at_each}

pub missed : (looked : List ℕ) (i n : ℕ) → has_looked looked i ≡ false → i < n → has_looked_at_each looked n ≡ false
missed looked i zero none lt = absurd (omega (arith, lt))
missed looked i (suc n) none lt =
    elim (i == n) as (λ b. (i == n) ≡ b → (has_looked looked n && has_looked_at_each looked n) ≡ false) [
      | true ↦ λ e. ap (λ b. b && has_looked_at_each looked n) (ap (has_looked looked) (sym (eqb-true i n e)) ∙ none)
      | false ↦ λ e.
          let apart = eqb-false i n e in
          let rest = missed looked i n none (omega (arith, lt, apart)) in
          false_from_ne_true _ (λ h. let t : true ≡ false = sym (and_parts (has_looked looked n) (has_looked_at_each looked n) h).1 ∙ rest in cc)
    ] refl

pub unseen : (looked : List ℕ) (from : ℕ) → ((i : ℕ) → has_looked looked i ≡ true → i < from) → has_looked looked from ≡ false
unseen looked from below = false_from_ne_true (has_looked looked from) (λ h. let lt = below from h in omega (arith, lt))

pub seen_below : (looked : List ℕ) (from : ℕ) → ((i : ℕ) → has_looked looked i ≡ true → i < from) → (i : ℕ) → has_looked (looked ++ from ∷ []) i ≡ true → i < from + 1
seen_below looked from below i h = go (has_looked looked i) refl (sym (list_any-append (λ other. other == i) looked (from ∷ [])) ∙ h)
  where
    alone : (b : Bool) → (b || false) ≡ true → b ≡ true
    alone true h = refl
    alone false h = h

    go : (b : Bool) → has_looked looked i ≡ b → (b || ((from == i) || false)) ≡ true → i < from + 1
    go true e h = let lt = below i e in omega (arith, lt)
    go false e h = let is = eqb-true from i (alone (from == i) h) in omega (arith, is)
