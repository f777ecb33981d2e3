use Rattle.jc_world.proofs.Common.{◌<◌, ◌≤◌, length, get_or, ap, arith}
use Rattle.jc_world.proofs.Restarting.{restarts_start, restartable, restarted_next, restarted_all}
use Rattle.jc_world.proofs.stripes.restart_each.Goals as goal

pub loop-stripe-init : goal.loop-stripe-init
loop-stripe-init c = restarts_start c.args.config.now c.args.stripes.now c.requires.left c.requires.none

pub restart-requires : goal.restart-requires
restart-requires c =
    let ss = c.loop-stripe.stripes in
    let n = c.loop-stripe.stripe-index in
    let same = c.loop-stripe.auto.stripes in
    let lt = c.loop-stripe-test.true in
    let within : n < length ss = omega arith in
    (restartable c.args.config.now n ss (get_or ss n c.stripe-item.result) c.loop-stripe.invariant within (ap (get_or ss n) c.stripe-item.is)).none

pub loop-stripe-preserved : goal.loop-stripe-preserved
loop-stripe-preserved c =
    let ss = c.loop-stripe.stripes in
    let n = c.loop-stripe.stripe-index in
    let same = c.loop-stripe.auto.stripes in
    let lt = c.loop-stripe-test.true in
    let within : n < length ss = omega arith in
    restarted_next c.args.config.now n ss (get_or ss n c.stripe-item.result) c.restart.new.self c.loop-stripe.invariant within (ap (get_or ss n) c.stripe-item.is) c.restart.ensures

pub returns : goal.returns
returns c =
    let same = c.loop-stripe.auto.stripes in
    let over = c.loop-stripe-test.false in
    let end : length c.loop-stripe.stripes ≤ c.loop-stripe.stripe-index = omega arith in
    restarted_all c.args.config.now c.loop-stripe.stripe-index c.loop-stripe.stripes c.loop-stripe.invariant end
