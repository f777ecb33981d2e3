use Rattle.std.proofs.Common.{sym, true≢false}
use Rattle.jc_check.specs.Nodes.{node_value}
use Rattle.jc_check.proofs.Known.{never-place, none-with}
use Rattle.jc_check.proofs.states.States.has.Goals as goal

pub returns-in-None : goal.returns-in-None
returns-in-None c = (
  λ h. absurd (true≢false (sym h)),
  λ among. absurd (none-with c.args.self.now (node_value c.args.node.now) c.print-print.result c.requires.prints c.requires.places c.print-print.ensures
      (never-place c.args.self.now.places c.print-print.result c.find.result c.in-None.is c.find.ensures) among),
)
