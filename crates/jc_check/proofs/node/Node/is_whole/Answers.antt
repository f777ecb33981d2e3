use Rattle.std.proofs.Common.{refl, inl}
use Rattle.jc_check.specs.Nodes.{node_value}
use Rattle.jc_check.proofs.Settling.{whole-all}
use Rattle.jc_check.proofs.node.Node.is_whole.Goals as goal

pub loop-call-init : goal.loop-call-init
loop-call-init c = λ k h must. inl h

pub returns : goal.returns
returns c = (
  λ h. whole-all c.args.calls.now (node_value c.args.self.now) c.loop-call.call c.loop-call.invariant c.loop-call-test.false,
  λ whole. refl,
)
