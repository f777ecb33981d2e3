use Rattle.std.proofs.Common.{subst}
use Rattle.jc_check.specs.Exploring.{EndsRight}
use Rattle.jc_check.specs.Nodes.{IsClosed, opening_node}
use Rattle.jc_check.specs.States.{node_values}
use Rattle.jc_check.proofs.Known.{among-at-list, at-grows}
use Rattle.jc_check.proofs.verdict.check.Goals as goal

pub returns-in-Whole : goal.returns-in-Whole
returns-in-Whole c =
    let rules = c.args.rules.now in
    let calls = c.args.calls.now in
    let first = opening_node c.args.opening.now in
    let ends = subst (EndsRight rules calls c.args.budget c.explore.new.states) c.in-Whole.is c.in_ok-place.ensures.ends in
    c.whole_nodes_explain.ensures rules calls c.args.opening.now c.in_ok-turns-in-Whole.turns.items ends.0
    (c.in_ok-turns-in-Whole.ensures first ends.0
    (at-grows c.in_ok-states.states c.explore.new.states 0 first c.in_ok-place.ensures.grows c.in_ok-states.ensures.first) ends.1) ends.2

pub returns-in-Closed : goal.returns-in-Closed
returns-in-Closed c =
    let rules = c.args.rules.now in
    let calls = c.args.calls.now in
    let states = c.explore.new.states in
    let first = opening_node c.args.opening.now in
    let ends = subst (EndsRight rules calls c.args.budget states) c.in-Closed.is c.in_ok-place.ensures.ends in
    let closed : IsClosed rules calls c.args.opening.now (node_values states.list.items) = record {
      first = among-at-list states 0 first (at-grows c.in_ok-states.states states 0 first c.in_ok-place.ensures.grows c.in_ok-states.ensures.first);
      each = ends.0;
    } in
    record { none = c.closed_nodes_refute.ensures rules calls c.args.opening.now (node_values states.list.items) closed; closed = closed; few = ends.1 }

pub returns : goal.returns
returns c =
    record {
      first = at-grows c.in_ok-states.states c.explore.new.states 0 (opening_node c.args.opening.now) c.in_ok-place.ensures.grows c.in_ok-states.ensures.first;
      known = c.in_ok-place.ensures.known;
      more = subst (EndsRight c.args.rules.now c.args.calls.now c.args.budget c.explore.new.states) c.in-Spent.is c.in_ok-place.ensures.ends;
    }
