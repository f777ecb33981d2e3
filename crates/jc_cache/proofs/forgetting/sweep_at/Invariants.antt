use Rattle.jc_cache.proofs.Common.{◌≡◌}
use Rattle.jc_cache.proofs.Forgotten.{SweptSo}
use Rattle.jc_cache.proofs.forgetting.sweep_at.Given as goal

abbrev pub invariant-loop : goal.invariant-loop
invariant-loop g l = (l.agent ≡ l.initial.agent) × (l.seat.0 ≡ l.initial.seat.0) × SweptSo l.initial.seat.1 l.seat.1
