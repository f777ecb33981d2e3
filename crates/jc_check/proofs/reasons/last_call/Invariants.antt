use Rattle.std.proofs.Common.{◌≡◌, IfSome, true}
use Rattle.jc_check.specs.Nodes.{must_at}
use Rattle.jc_check.proofs.reasons.last_call.Given as goal

abbrev pub invariant-loop-call : goal.invariant-loop-call
invariant-loop-call l = IfSome l.last (λ call. must_at l.calls call ≡ true)
