use Rattle.std.proofs.Common.{ℕ, ◌<◌, sym, ap, ◌∙◌, subst, arith}
use Rattle.jc_lock.proofs.Steps.{splits_session}
use Rattle.jc_lock.proofs.lock.HistLock.split.Goals as goal

pub split_seat-token-requires : goal.split_seat-token-requires
split_seat-token-requires c = (
  ap (λ z. z.0) c.seat.view_is ∙ c.requires.lock ∙ sym c.self.view_is,
  subst (λ (n : ℕ). 0 < n) (sym c.self.invariant.0) (omega arith),
  splits_session (λ b. b.value) _ _ c.requires.gives.0 (ap (λ z. z.1.next_session) c.seat.view_is ∙ c.requires.gives.1),
)
