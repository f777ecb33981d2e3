use Rattle.std.proofs.Common.{ℕ, ◌<◌, sym, ap, ◌∙◌, subst, arith, ⊎_elim}
use Rattle.std.proofs.lemmas.Bool.{true≢false}
use Rattle.jc_lock.proofs.Steps.{joins_note, learns_at}
use Rattle.jc_lock.proofs.lock.HistLock.join.Goals as goal

pub join_seat-requires : goal.join_seat-requires
join_seat-requires c = let free = ap (λ z. z.1.holds) c.other.view_is ∙ c.requires.free in (
  ap (λ z. z.0) c.seat.view_is ∙ c.requires.lock.0 ∙ sym c.self.view_is,
  ap (λ z. z.0) c.other.view_is ∙ c.requires.lock.1 ∙ sym c.self.view_is,
  ⊎_elim (λ t. t.1) (λ t. absurd (true≢false (sym t.0 ∙ free))) c.other.invariant.1,
  subst (λ (n : ℕ). 0 < n) (sym c.self.invariant.0) (omega arith),
  joins_note (λ b. b.value) _ _ _ _ free,
)

pub load-requires : goal.load-requires
load-requires c = (
  c.join_seat.ensures.0 ∙ ap (λ z. z.0) c.seat.view_is ∙ c.requires.lock.0 ∙ sym c.self.view_is,
  subst (λ (n : ℕ). 0 < n) (sym c.self.invariant.0) (omega arith),
  learns_at (λ b. b.value) _ _ _ c.self.invariant.1,
)
