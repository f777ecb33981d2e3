use Rattle.std.proofs.Common.{◌∙◌, sym, ap, subst, ◌<◌}
use Rattle.jc_pool.specs.declared.view.JobPlan.{JobPlan}
use Rattle.jc_pool.proofs.Steps.{closes}
use Rattle.jc_pool.proofs.counter.Counter.close.Goals as goal

pub returns : goal.returns
returns c x =
    let last = c.close_with.ensures.values.2 in
    let plan = ap (λ z. z.1) c.self.view_is in let claims = ap (λ z. z.1) c.claimer.view_is in
    rw (← c.claimer.view_is, ← c.self.view_is)
    (closes _ last.0 _ _ last.1 (subst (λ (k : JobPlan). 0 < k.workers) (sym plan) c.requires.all.0)
    (ap (λ v. v.working) claims ∙ c.requires.all.1)
    (ap (λ v. v.ended) claims ∙ c.requires.all.2 ∙ sym (ap (λ k. k.workers) plan)) x)
