use Rattle.std.proofs.Common.{rules}
use Rattle.jc_plain.specs.Attempts.{FailsAt}
use Rattle.jc_plain.proofs.Passing.{IsFiltered-passed}
use Rattle.jc_plain.proofs.attempts.attempt_keys.Goals as goal

pub returns-then-is_empty-clause-left : goal.returns-then-is_empty-clause-left
returns-then-is_empty-clause-left g c =
    IsFiltered-passed (λ s. s.0.now) _ (FailsAt g.F.FnMut) (λ s x b s' call. search rules) _ _ _ c.retain.ensures.filtered

pub returns-clause-left : goal.returns-clause-left
returns-clause-left g c =
    IsFiltered-passed (λ s. s.0.now) _ (FailsAt g.F.FnMut) (λ s x b s' call. search rules) _ _ _ c.retain.ensures.filtered
