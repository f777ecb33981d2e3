use Rattle.std.proofs.Common.{List, Option, IfSome, subst}
use Rattle.jc_check.specs.declared.smallest.Need.{Need}
use Rattle.jc_check.specs.Parts.{IsNeed, whole}
use Rattle.jc_check.proofs.Forgetting.{need-of-same, needs-next, pushed-length, same-trans}
use Rattle.jc_check.proofs.smallest.Shrinking.round.Goals as goal

pub loop-call-preserved : goal.loop-call-preserved
loop-call-preserved c =
    let first = c.args.self.now in
    let now = c.loop-call.self in
    let kept = c.args.kept.now in
    let call = c.loop-call.call in
    let needs : List Need = c.loop-call.needs.items in
    let inv = c.loop-call.invariant in
    let need = subst (λ (o : Option Need). IfSome o (IsNeed c.args.rules.now (whole now) c.args.opening.now now.each kept call)) c.in-Some.is c.in_ok-need.ensures.need in (
      same-trans first now c.need_of.new.self inv.0 c.in_ok-need.ensures.same,
      pushed-length needs c.in-Some.need c.push.new.self.items call c.in_ok-push-in-Some.ensures.items inv.1,
      needs-next c.args.rules.now (whole first) c.args.opening.now first.each kept call needs c.push.new.self.items c.in-Some.need
          c.in_ok-push-in-Some.ensures.items inv.1 inv.2
          (need-of-same c.args.rules.now first now c.args.opening.now kept call c.in-Some.need inv.0 need),
    )
