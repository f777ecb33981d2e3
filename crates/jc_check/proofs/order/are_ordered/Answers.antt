use Rattle.jc_check.proofs.Ordering.{all-ordered, none-ordered}
use Rattle.jc_check.proofs.order.are_ordered.Goals as goal

pub loop-at-init : goal.loop-at-init
loop-at-init c = none-ordered c.args.calls.now

pub returns : goal.returns
returns c = λ h. all-ordered c.args.calls.now c.loop-at.at c.loop-at.latest c.loop-at.invariant c.loop-at-test.false
