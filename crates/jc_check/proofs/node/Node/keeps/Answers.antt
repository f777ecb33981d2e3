use Rattle.std.proofs.Common.{refl}
use Rattle.jc_check.specs.Nodes.{node_value}
use Rattle.jc_check.proofs.Settling.{keeps-all, low-kept}
use Rattle.jc_check.proofs.node.Node.keeps.Goals as goal

pub loop-call-init : goal.loop-call-init
loop-call-init c = λ k h. low-kept c.args.rules.now c.args.calls.now (node_value c.args.self.now) c.args.turn k h

pub returns : goal.returns
returns c = (
  λ h. keeps-all c.args.rules.now c.args.calls.now (node_value c.args.self.now) c.args.turn c.args.end c.loop-call.call c.requires c.loop-call.invariant
      c.loop-call-test.false,
  λ keeps. refl,
)
