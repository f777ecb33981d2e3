use Rattle.std.proofs.Common.{◌≡◌, ◌+◌, ◌++◌, ◌∷◌, [], List, get_or, ap, subst, sym, take, inl, inr, ◌∙◌, arith}
use Rattle.std.proofs.lemmas.List.{take_more}
use Rattle.jc_check.specs.declared.node.Node.{Node}
use Rattle.jc_check.specs.Nodes.{IsAmong, NodeValue, node_value}
use Rattle.jc_check.specs.Reasons.{IsForeseen, IsReady}
use Rattle.jc_check.specs.States.{node_values}
use Rattle.jc_check.proofs.Covering.{taken-all}
use Rattle.jc_check.proofs.Known.{values-push}
use Rattle.jc_check.proofs.Quantified.{any-push}
use Rattle.jc_check.proofs.reasons.spots_at.Goals as goal

pub loop-node-preserved : goal.loop-node-preserved
loop-node-preserved c n among is-ready =
    let nodes : List Node = c.args.states.now.list.items in
    let k = c.loop-node.node-index in
    let m : Node = c.node-item.result in
    let more : take (k + 1) nodes ≡ take k nodes ++ m ∷ [] =
    take_more nodes k m (omega (arith, c.loop-node-test.true)) ∙ ap (λ (x : Node). take k nodes ++ x ∷ [])
    (sym (c.node-item.is ∙ ap (λ (xs : List Node). get_or xs k m) c.deref-node-items.ensures.value)) in
    let pushed : node_values (take (k + 1) nodes) ≡ node_values (take k nodes) ++ node_value m ∷ [] = ap node_values more ∙ values-push (take k nodes) m in
    elim (any-push (λ (x : NodeValue). x ≡ n) (node_values (take k nodes)) (node_value m) (subst (λ (xs : List NodeValue). IsAmong xs n) pushed among)) [
      | inl before ↦ elim (c.loop-node.invariant n before is-ready) [
        | inl was ↦ inl (c.in_ok-note_node.ensures.others n.spot was)
        | inr fits ↦ inr fits
      ]
      | inr last ↦ subst (λ (x : NodeValue). IsForeseen c.args.rules.now c.args.calls.now c.args.call c.note_node.new.spots.items x.spot) last
          (c.in_ok-note_node.ensures.seen (subst (λ (x : NodeValue). IsReady c.args.rules.now c.args.calls.now x c.args.call) (sym last) is-ready))
    ]

pub returns : goal.returns
returns c n among is-ready =
    c.loop-node.invariant n
    (subst (λ (xs : List Node). IsAmong (node_values xs) n) (sym (taken-all c.loop-node.node-index c.args.states.now.list.items (omega (arith, c.loop-node-test.false)))) among)
    is-ready
