-- Lists, place by place.
use Rattle.std.proofs.Common.{◌≡◌, ℕ, zero, suc, ◌+◌, ◌<◌, ◌⊎◌, inl, inr, sym, subst, ap, refl, arith}

pub eq_or_less : (t n : ℕ) → t < n + 1 → (t < n) ⊎ (t ≡ n)
eq_or_less zero zero h = inr refl
eq_or_less zero (suc n) h = inl (omega arith)
eq_or_less (suc t) zero h = absurd (omega arith)
eq_or_less (suc t) (suc n) h = elim (eq_or_less t n (omega arith)) [ inl less ↦ inl (omega arith) | inr same ↦ inr (ap suc same) ]

-- what holds below a number and at it holds below the next one
pub below_one-more : (P : ℕ → Type 0) (n : ℕ) → ((t : ℕ) → t < n → P t) → P n → (t : ℕ) → t < n + 1 → P t
below_one-more P n below last t h = elim (eq_or_less t n h) [ inl less ↦ below t less | inr same ↦ subst P (sym same) last ]
