use Rattle.jc_check.specs.States.{node_values}
use Rattle.jc_check.proofs.reasons.could_be.Goals as goal

pub returns : goal.returns
returns c opening closed must =
    c.closed_nodes_foresee.ensures c.args.rules.now c.args.calls.now opening (node_values c.args.states.now.list.items) c.args.call
    c.in_ok-spots.spots.items closed must c.in_ok-spots.ensures
