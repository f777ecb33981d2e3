use Rattle.std.proofs.Common.{ℕ, ◌<◌, ◌∙◌, sym, ap, subst, arith}
use Rattle.jc_pool.specs.declared.view.Claims.{Claims}
use Rattle.jc_pool.specs.Views.{workers_of}
use Rattle.jc_pool.proofs.Steps.{joins_it}
use Rattle.jc_pool.proofs.counter.Counter.join.Goals as goal

pub join_seat-requires : goal.join_seat-requires
join_seat-requires c = (
  ap (λ z. z.0) c.claimer.view_is ∙ c.requires.counter.0.0 ∙ sym (ap (λ z. z.0) c.self.view_is),
  ap (λ z. z.0) c.other.view_is ∙ c.requires.counter.1.0 ∙ sym (ap (λ z. z.0) c.self.view_is),
  c.other.invariant,
  subst (λ (n : ℕ). 0 < n) (sym c.self.invariant.0) (omega arith),
  joins_it _ _ _ _ _ (subst (λ (v : Claims). 0 < workers_of v) (sym (ap (λ z. z.1) c.claimer.view_is)) c.requires.some),
)
