use Rattle.std.proofs.Common.{◌≡◌, sym, subst, arith}
use Rattle.jc_check.specs.Nodes.{LeadsInside, MayGo, NodeValue, node_value}
use Rattle.jc_check.specs.States.{node_values}
use Rattle.jc_check.proofs.Known.{at-index, one-value}
use Rattle.jc_check.proofs.exploring.try_turn.Goals as goal

pub note-requires-clause-comes : goal.note-requires-clause-comes
note-requires-clause-comes c =
    record {
      before = node_value c.index-node.result.now;
      there = at-index c.args.states.now c.args.place c.index-node.result.now (omega (arith, c.if-place-len.false)) c.index-node.ensures;
      goes = c.in_ok-next-in-Some.ensures;
    }

pub returns-in_ok-note-in-Some-clause-covers : goal.returns-in_ok-note-in-Some-clause-covers
returns-in_ok-note-in-Some-clause-covers c n at spot may =
    let s = c.args.states.now in
    let m = c.index-node.result.now in
    let same : node_value m ≡ n =
    one-value s c.args.place (node_value m) n (at-index s c.args.place m (omega (arith, c.if-place-len.false)) c.index-node.ensures) at in
    subst (λ (x : NodeValue). LeadsInside c.args.rules.now c.args.calls.now (node_values c.note.new.self.list.items) x c.args.turn) same
    (record { next = node_value c.in_ok-next-in-Some.next; goes = c.in_ok-next-in-Some.ensures; inside = c.in_ok-note-in-Some.ensures.covers })

pub returns-in-None-clause-covers : goal.returns-in-None-clause-covers
returns-in-None-clause-covers c n at spot may =
    let s = c.args.states.now in
    let m = c.index-node.result.now in
    let same : node_value m ≡ n =
    one-value s c.args.place (node_value m) n (at-index s c.args.place m (omega (arith, c.if-place-len.false)) c.index-node.ensures) at in
    absurd (c.in-None.ensures.none spot (subst (λ (x : NodeValue). MayGo c.args.rules.now c.args.calls.now x c.args.turn spot) (sym same) may))
