use Rattle.std.proofs.Common.{◌≡◌, map, take}
use Rattle.jc_check.specs.declared.record.Recorded.{Recorded}
use Rattle.jc_check.proofs.smallest.roles_of.Given as goal

abbrev pub invariant-loop-call : goal.invariant-loop-call
invariant-loop-call l = l.roles.items ≡ map (λ (c : Recorded). c.role) (take l.call-index l.calls)
