use Rattle.std.proofs.Common.{ℕ, List, subst, sym}
use Rattle.jc_check.specs.Nodes.{HasLanded}
use Rattle.jc_check.proofs.Known.{same-spot}
use Rattle.jc_check.proofs.node.Node.covers.Goals as goal

pub returns : goal.returns
returns c h =
    record {
      settled = c.are_no_more.ensures c.if-not-are_no_more.false;
      spot = same-spot c.args.self.now.spot c.args.other.now.spot (c.is_same_spot.ensures.0 c.if-not-is_same_spot.false);
      landed = λ call has. subst (λ (l : List ℕ). HasLanded l call) c.deref-2.ensures.value
          (c.are_landed.ensures.0 h call (subst (λ (l : List ℕ). HasLanded l call) (sym c.deref.ensures.value) has));
    }
