use Rattle.std.proofs.Common.{◌≡◌, ap, subst, arith}
use Rattle.jc_check.specs.Nodes.{NodeValue, node_value}
use Rattle.jc_check.specs.Orders.{AreBarred}
use Rattle.jc_check.specs.declared.record.Turn.TheVariants.{Vanish}
use Rattle.jc_check.proofs.Covering.{covers-all, covers-grows}
use Rattle.jc_check.proofs.Known.{at-grows, at-index, grows-more, one-value}
use Rattle.jc_check.proofs.exploring.try_all.Goals as goal

pub returns-clause-covers : goal.returns-clause-covers
returns-clause-covers c n at =
    let rules = c.args.rules.now in
    let calls = c.args.calls.now in
    let place = c.args.place in
    let s = c.args.states.now in
    let first = c.try_turn.new.states in
    let second = c.try_calls.new.states in
    let last = c.try_landings.new.states in
    let m = c.index-node.result.now in
    let same : node_value m ≡ n =
    one-value s place (node_value m) n (at-index s place m (omega (arith, c.if-place-len.false)) c.index-node.ensures) at in
    let to-last = grows-more first second last c.in_ok-try_calls.ensures.grows c.in_ok-try_landings.ensures.grows in
    let there = at-grows s first place n c.in_ok-try_turn.ensures.grows at in
    covers-all rules calls last n c.barred_from-end.result c.args.survey.now.landable.items
    (covers-grows rules calls first last n Vanish to-last (c.in_ok-try_turn.ensures.covers n at))
    (λ call up h act not spot may.
    covers-grows rules calls second last n _ c.in_ok-try_landings.ensures.grows
    (c.in_ok-try_calls.ensures.covers n there call (omega (arith, up, ap (λ (x : NodeValue). x.from) same)) h act not) spot may)
    (subst (λ (x : NodeValue). AreBarred rules calls x c.barred_from-end.result) same c.barred_from-end.ensures)
    (c.in_ok-try_landings.ensures.covers n (at-grows first second place n c.in_ok-try_calls.ensures.grows there)) c.requires.survey.landable
