use Rattle.jc_world.proofs.Common.{◌+◌, ◌-◌, ◌++◌, ap, ◌∙◌, fresh_stripes}
use Rattle.jc_world.proofs.Numbered.{made_more}
use Rattle.jc_world.proofs.stripes.make_stripes.Goals as goal

pub loop-number-preserved : goal.loop-number-preserved
loop-number-preserved c =
    let n = c.loop-number.number in
    let end = c.args.config.now.stripes in
    ap (λ xs. xs ++ fresh_stripes c.args.config.now (n + 1) (end - (n + 1))) c.in_ok-push.ensures.items
    ∙ made_more c.args.config.now c.loop-number.made.items c.in_ok-new.field-0 n end c.loop-number-test.true c.in_ok-new.ensures ∙ c.loop-number.invariant
