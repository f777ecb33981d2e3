use Rattle.std.proofs.Common.{List}
use Rattle.jc_check.specs.declared.smallest.Need.{Need}
use Rattle.jc_check.proofs.Forgetting.{needs-next, pushed-length}
use Rattle.jc_check.proofs.smallest.untried.Goals as goal

pub loop-call-preserved : goal.loop-call-preserved
loop-call-preserved c =
    let needs : List Need = c.loop-call.needs.items in
    let n : Need = c.need_untried.result in
    let inv = c.loop-call.invariant in (
      pushed-length needs n c.push.new.self.items c.loop-call.call c.in_ok-push.ensures.items inv.0,
      λ rules calls opening limit. needs-next rules calls opening limit c.args.kept.now c.loop-call.call needs c.push.new.self.items n
          c.in_ok-push.ensures.items inv.0 (inv.1 rules calls opening limit) (c.need_untried.ensures rules calls opening limit),
    )
