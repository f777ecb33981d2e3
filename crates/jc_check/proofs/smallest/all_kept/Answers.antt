use Rattle.std.proofs.Common.{List, Bool, true, ap, ◌∙◌}
use Rattle.jc_check.specs.Parts.{forget}
use Rattle.jc_check.proofs.Forgetting.{forget-true, pushed-length}
use Rattle.jc_check.proofs.smallest.all_kept.Goals as goal

pub loop-call-preserved : goal.loop-call-preserved
loop-call-preserved c =
    let kept : List Bool = c.loop-call.kept.items in
    let inv = c.loop-call.invariant in (
      pushed-length kept true c.push.new.self.items c.loop-call._call c.in_ok-push.ensures.items inv.0,
      λ calls. ap (λ (ks : List Bool). forget ks calls) c.in_ok-push.ensures.items ∙ forget-true kept calls ∙ inv.1 calls,
    )
