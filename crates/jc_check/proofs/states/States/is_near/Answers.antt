use Rattle.std.proofs.Common.{refl}
use Rattle.jc_check.specs.Nodes.{node_value}
use Rattle.jc_check.proofs.Known.{here-among}
use Rattle.jc_check.proofs.states.States.is_near.Goals as goal

pub returns-then-is_there : goal.returns-then-is_there
returns-then-is_there c =
    (λ h. here-among c.args.self.now.list.items c.args.place (node_value c.args.node.now) (c.is_there.ensures.0 c.if-is_there.true), λ h. refl)
