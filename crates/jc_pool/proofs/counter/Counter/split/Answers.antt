use Rattle.std.proofs.Common.{ℕ, ◌<◌, ◌∙◌, sym, ap, subst, arith}
use Rattle.jc_pool.specs.declared.view.Claims.{Claims}
use Rattle.jc_pool.proofs.Steps.{splits_it}
use Rattle.jc_pool.proofs.counter.Counter.split.Goals as goal

pub split_seat-token-requires : goal.split_seat-token-requires
split_seat-token-requires c = (
  ap (λ z. z.0) c.claimer.view_is ∙ c.requires.counter.0 ∙ sym (ap (λ z. z.0) c.self.view_is),
  subst (λ (n : ℕ). 0 < n) (sym c.self.invariant.0) (omega arith),
  splits_it _ _ _ (subst (λ (v : Claims). 1 < v.working) (sym (ap (λ z. z.1) c.claimer.view_is)) c.requires.two),
)
