use Rattle.std.proofs.Common.{◌∙◌, ℕ, sym, ap, take, add-one}
use Rattle.jc_model.specs.declared.event.Event.{Event}
use Rattle.jc_model.specs.Legal.{may_come}
use Rattle.jc_stripe.specs.OwnSteps.{may_come_all}
use Rattle.jc_stripe.proofs.Testing.{all_not, all_more}
use Rattle.jc_stripe.proofs.stripe.conditions.may_come_all.Goals as goal

pub returns-then-not-may_come : goal.returns-then-not-may_come
returns-then-not-may_come c =
    sym (all_not (λ (e : Event). may_come e c.args.caller.now c.args.key.now) c.args.history.now.events c.loop-place.place c.event.result c.event.ensures (sym c.may_come.ensures ∙ c.if-not-may_come.true))

pub loop-place-preserved : goal.loop-place-preserved
loop-place-preserved c =
    let more = all_more (λ (e : Event). may_come e c.args.caller.now c.args.key.now) c.args.history.now.events c.loop-place.place c.event.result c.event.ensures (sym c.may_come.ensures ∙ c.if-not-may_come.false) c.loop-place.invariant in
    ap (λ (n : ℕ). may_come_all (take n c.args.history.now.events) c.args.caller.now c.args.key.now) (add-one c.loop-place.place) ∙ more
