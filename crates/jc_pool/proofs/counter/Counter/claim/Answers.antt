use Rattle.std.proofs.Common.{ℕ, ◌<◌, ◌∙◌, sym, ap, subst, arith}
use Rattle.jc_pool.specs.declared.view.Claims.{Claims}
use Rattle.jc_pool.proofs.Steps.{claims_it}
use Rattle.jc_pool.proofs.counter.Counter.claim.Goals as goal

pub fetch_add-found-requires : goal.fetch_add-found-requires
fetch_add-found-requires c = (
  ap (λ z. z.0) c.claimer.view_is ∙ c.requires.counter.0 ∙ sym (ap (λ z. z.0) c.self.view_is),
  subst (λ (n : ℕ). 0 < n) (sym c.self.invariant.0) (omega arith),
  claims_it _ _ _ _ (subst (λ (v : Claims). 0 < v.working) (sym (ap (λ z. z.1) c.claimer.view_is)) c.requires.working),
)
