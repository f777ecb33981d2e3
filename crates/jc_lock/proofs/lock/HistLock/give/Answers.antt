use Rattle.jc_lock.specs.Views.{IsTurnBy}
use Rattle.std.proofs.Common.{ℕ, ◌<◌, sym, ap, ◌∙◌, subst, arith}
use Rattle.jc_lock.specs.declared.view.View.{View}
use Rattle.jc_lock.proofs.Steps.{gives_at, slot_there}
use Rattle.jc_lock.proofs.lock.HistLock.give.Goals as goal

pub store-requires : goal.store-requires
store-requires c = let went = c.exchange.ensures.3 in let view = ap (λ m. m.0) went ∙ ap (λ z. z.1) c.seat.view_is in (
  c.exchange.ensures.0 ∙ ap (λ z. z.0) c.seat.view_is ∙ c.requires.held.0 ∙ sym c.self.view_is,
  subst (λ (n : ℕ). 0 < n) (sym c.self.invariant.0) (omega arith),
  gives_at (λ b. b.value) c.is_uniform.ensures c.renewal.ensures _ _ _ c.args.stripe c.self.invariant.1 (ap (λ v. v.holds) view ∙ c.requires.held.1) (slot_there (λ b. b.value) _ _ _ (ap (λ m. m.1) went))
      (subst (λ (v : View). IsTurnBy v.session v.noted c.args.stripe.value) (sym view) c.requires.phase),
)
