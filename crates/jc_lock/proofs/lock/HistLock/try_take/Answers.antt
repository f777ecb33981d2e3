use Rattle.std.proofs.Common.{ℕ, ◌<◌, sym, ap, ◌∙◌, subst, arith, Some}
use Rattle.jc_lock.proofs.Steps.{takes_at, counts, slot_there}
use Rattle.jc_lock.proofs.lock.HistLock.try_take.Goals as goal

pub compare_exchange-requires : goal.compare_exchange-requires
compare_exchange-requires c = (
  ap (λ z. z.0) c.seat.view_is ∙ c.requires.0 ∙ sym c.self.view_is,
  subst (λ (n : ℕ). 0 < n) (sym c.self.invariant.0) (omega arith),
  takes_at (λ b. b.value) _ (counts (λ b. b.value)) _ _ _ c.self.invariant.1 c.seat.invariant.0 (ap (λ z. z.1.holds) c.seat.view_is ∙ c.requires.1),
)

pub exchange-requires : goal.exchange-requires
exchange-requires c = let t = c.compare_exchange.ensures.2.0 c.if-compare_exchange-ne-FREE.false in
    (c.compare_exchange.ensures.0 ∙ ap (λ z. z.0) c.seat.view_is ∙ c.requires.0 ∙ sym c.self.view_is, (Some t.0, slot_there (λ b. b.value) _ _ _ (ap (λ m. m.1) t.1)))
