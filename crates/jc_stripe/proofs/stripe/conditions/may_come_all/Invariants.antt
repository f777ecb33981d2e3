use Rattle.std.proofs.Common.{◌≡◌, take, true}
use Rattle.jc_stripe.specs.OwnSteps.{may_come_all}
use Rattle.jc_stripe.proofs.stripe.conditions.may_come_all.Given as goal

abbrev pub invariant-loop-place : goal.invariant-loop-place
invariant-loop-place l = may_come_all (take l.place l.history.events) l.caller l.key ≡ true
