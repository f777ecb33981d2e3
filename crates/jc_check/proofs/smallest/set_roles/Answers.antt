use Rattle.std.proofs.Common.{List, get_or, ap, ◌∙◌, arith, Vec, Global}
use Rattle.std.proofs.lemmas.List.{get_or_default}
use Rattle.jc_check.specs.declared.record.Recorded.{Recorded}
use Rattle.jc_check.specs.declared.record.Role.{Role}
use Rattle.jc_check.specs.declared.record.Role.TheVariants as role
use Rattle.jc_check.proofs.Forgetting.{roles-step, roles-past-step}
use Rattle.jc_check.proofs.smallest.set_roles.Goals as goal
use Rattle.jc_check.proofs.smallest.set_roles.Goals.{then-at-len, else-at-len}

pub loop-at-preserved : goal.loop-at-preserved
loop-at-preserved c =
    let now : List Recorded = c.loop-at.calls.items in
    let roles : List Role = c.args.roles.now in
    let calls : List Recorded = c.args.calls.now.items in
    let r : Role = get_or roles c.loop-at.at role.Call in
    let long = c.loop-at.calls.ok.0 in
    elim c.if-at-len.branch [
      | then-at-len w ↦ ap (λ (v : Vec Recorded Global). v.items) w.calls-is
          ∙ roles-step roles c.loop-at.at r calls now w.index_mut.result.now c.loop-at-test.true
          (get_or_default roles c.loop-at.at role.Call r c.loop-at-test.true) (omega (arith, w.if-at-len.true, c.len.ensures, long))
          c.loop-at.invariant w.index_mut.ensures.value
      | else-at-len w ↦ ap (λ (v : Vec Recorded Global). v.items) w.calls-is
          ∙ roles-past-step roles c.loop-at.at r calls now c.loop-at-test.true (omega (arith, w.if-at-len.false, c.len.ensures, long)) c.loop-at.invariant
    ]
