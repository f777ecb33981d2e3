use Rattle.jc_script.proofs.Common.{◌≡◌, ◌∙◌, ◌+◌, ◌++◌, ◌∷◌, [], List, suc, ap, append_assoc, arith, sym, WorldEvent, looks}
use Rattle.jc_world.specs.declared.event.WorldEvent.TheVariants as event
use Rattle.jc_script.proofs.Fitting.{looks-more}
use Rattle.jc_script.proofs.play.beginning.put_looks.Goals as goal

pub loop-stripe-preserved : goal.loop-stripe-preserved
loop-stripe-preserved c =
    let call = c.args.call in
    let stripe = c.loop-stripe.stripe in
    let next : suc stripe ≡ stripe + 1 = omega (arith) in
    let from : stripe ≡ 0 + stripe = omega (arith) in
    c.in_ok-push.ensures.items ∙ ap (λ (events : List WorldEvent). events ++ event.Look call stripe ∷ []) c.loop-stripe.invariant
    ∙ append_assoc c.args.events.now.items (looks call 0 stripe) (event.Look call stripe ∷ [])
    ∙ ap (λ (events : List WorldEvent). c.args.events.now.items ++ events)
    (ap (λ n. looks call 0 stripe ++ event.Look call n ∷ []) from ∙ sym (looks-more call 0 stripe) ∙ ap (looks call 0) next)
