use Rattle.std.proofs.Common.{◌≡◌, ◌≤◌, take, vec_capacity}
use Rattle.jc_types.specs.declared.limits.TheConstants.{RESERVATIONS_MAX}
use Rattle.jc_stripe.proofs.marks.Marks.set.Given as goal

abbrev pub invariant-loop-key : goal.invariant-loop-key
invariant-loop-key l = (l.self-inside.keys.items ≡ take l.key-index l.keys) × (RESERVATIONS_MAX ≤ vec_capacity l.self-inside.keys)
