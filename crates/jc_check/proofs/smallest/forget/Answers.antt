use Rattle.std.proofs.Common.{List, Bool, false, ap, ◌∙◌, arith, Vec, Global}
use Rattle.jc_check.specs.declared.record.Recorded.{Recorded}
use Rattle.jc_check.proofs.Forgetting.{forget-step, forget-true-step, forget-past-step}
use Rattle.jc_check.proofs.smallest.forget.Goals as goal
use Rattle.jc_check.proofs.smallest.forget.Goals.{then-at-len+then-not-kept-at, else-at-len, else-at-len-via-then-at-len+else-not-kept-at, else-at-len-via-else-at-len}

pub loop-at-preserved : goal.loop-at-preserved
loop-at-preserved c =
    let now : List Recorded = c.loop-at.calls.items in
    let kept : List Bool = c.args.kept.now in
    let calls : List Recorded = c.args.calls.now.items in
    let long = c.loop-at.calls.ok.0 in
    elim c.if-at-len.branch [
      | then-at-len+then-not-kept-at w ↦ ap (λ (v : Vec Recorded Global). v.items) w.calls-is
          ∙ forget-step kept c.loop-at.at false calls now w.index_mut.result.now c.loop-at-test.true w.if-not-kept-at.true
          (omega (arith, w.if-at-len.true, c.len.ensures, long)) c.loop-at.invariant w.index_mut.ensures.value
      | else-at-len w ↦ ap (λ (v : Vec Recorded Global). v.items) w.calls-is
          ∙ elim w.else-at-len.branch [
            | else-at-len-via-then-at-len+else-not-kept-at z ↦
                forget-true-step kept c.loop-at.at calls now c.loop-at-test.true z.if-not-kept-at.false c.loop-at.invariant
            | else-at-len-via-else-at-len z ↦
                forget-past-step kept c.loop-at.at calls now c.loop-at-test.true (omega (arith, z.if-at-len.false, c.len.ensures, long)) c.loop-at.invariant
          ]
    ]
