use Rattle.std.proofs.Common.{ℕ, ◌∙◌, ◌↔◌, subst, sym}
use Rattle.jc_check.specs.Nodes.{IsMarked, IsSettledBy, node_value}
use Rattle.jc_check.proofs.Marking.{all-marked, marked-more}
use Rattle.jc_check.proofs.Settling.{past-settled}
use Rattle.jc_check.proofs.node.Node.settled_by.Goals as goal

pub loop-call-preserved : goal.loop-call-preserved
loop-call-preserved c =
    let P = IsSettledBy c.args.rules.now c.args.calls.now (node_value c.args.self.now) c.args.turn in (
      marked-more P c.args.self.now.settled.from c.loop-call.marks c.note.new.self c.loop-call.call c.is_settled_by-is_settled.result c.loop-call.invariant.0
          c.is_settled_by-is_settled.ensures c.in_ok-note.ensures.next,
      c.in_ok-note.ensures.end ∙ c.loop-call.invariant.1,
    )

pub returns : goal.returns
returns c =
    let n = node_value c.args.self.now in
    let P = IsSettledBy c.args.rules.now c.args.calls.now n c.args.turn in
    λ call. subst (λ (end : ℕ). IsMarked c.loop-call.marks.from end c.loop-call.marks.rest.items call ↔ P call) (sym c.loop-call.invariant.1)
    (all-marked P n.from c.loop-call.marks.from c.larger-end.result c.loop-call.marks.rest.items c.loop-call.call c.loop-call.invariant.0 c.loop-call-test.false
    (past-settled c.args.rules.now c.args.calls.now n c.args.turn c.larger-end.result c.args.end c.requires.last c.requires.placed c.larger-end.ensures) call)
