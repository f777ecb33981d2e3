use Rattle.std.proofs.Common.{◌≡◌, take}
use Rattle.jc_check.specs.Parts.{with_roles}
use Rattle.jc_check.proofs.smallest.set_roles.Given as goal

abbrev pub invariant-loop-at : goal.invariant-loop-at
invariant-loop-at l = l.calls.items ≡ with_roles (take l.at l.roles) l.initial.calls.items
