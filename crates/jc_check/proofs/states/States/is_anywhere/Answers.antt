use Rattle.std.proofs.Common.{refl, sym, ◌∙◌, arith, true≢false}
use Rattle.jc_check.specs.Nodes.{node_value}
use Rattle.jc_check.specs.States.{IsNodeAt}
use Rattle.jc_check.proofs.Known.{among-here, here-among}
use Rattle.jc_check.proofs.Lists.{below_one-more}
use Rattle.jc_check.proofs.states.States.is_anywhere.Goals as goal

pub returns-then-is_at : goal.returns-then-is_at
returns-then-is_at c =
    (λ h. here-among c.args.self.now.list.items c.loop-place.place (node_value c.args.node.now) (c.is_at.ensures.0 c.if-is_at.true), λ h. refl)

pub loop-place-preserved : goal.loop-place-preserved
loop-place-preserved c =
    below_one-more (λ k. IsNodeAt c.args.self.now.list.items k (node_value c.args.node.now) → ⊥) c.loop-place.place c.loop-place.invariant
    (λ at. true≢false (sym (c.is_at.ensures.1 at) ∙ c.if-is_at.false))

pub returns : goal.returns
returns c = (
  λ h. absurd (true≢false (sym h)),
  λ among.
      let here = among-here c.args.self.now.list.items (node_value c.args.node.now) among in
      absurd (c.loop-place.invariant here.0 (omega (arith, here.1, c.loop-place-test.false)) here.2),
)
