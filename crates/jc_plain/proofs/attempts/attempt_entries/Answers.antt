use Rattle.std.proofs.Common.{rules}
use Rattle.jc_plain.specs.Attempts.{FailsAtEntry}
use Rattle.jc_plain.proofs.Passing.{RetainsPairs-passed}
use Rattle.jc_plain.proofs.attempts.attempt_entries.Goals as goal

pub returns-then-is_empty-clause-left : goal.returns-then-is_empty-clause-left
returns-then-is_empty-clause-left g c =
    RetainsPairs-passed (λ s. s.0.now) _ (FailsAtEntry g.F.FnMut) (λ s k v b w s' call. search rules) _ _ _ c.retain.ensures.filtered

pub returns-clause-left : goal.returns-clause-left
returns-clause-left g c =
    RetainsPairs-passed (λ s. s.0.now) _ (FailsAtEntry g.F.FnMut) (λ s k v b w s' call. search rules) _ _ _ c.retain.ensures.filtered
