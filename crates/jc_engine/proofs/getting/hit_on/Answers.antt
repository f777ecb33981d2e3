use Rattle.jc_engine.proofs.Common.{inl, refl, sym, ◌∙◌}
use Rattle.jc_engine.proofs.Beginning.{may-here, counted-hit, made-hit, stays-unhit}
use Rattle.jc_engine.proofs.getting.hit_on.Goals as goal

pub returns-clause-counted : goal.returns-clause-counted
returns-clause-counted c =
    counted-hit c.hit_into.result c.hit_into.new.value c.args.value.now c.args.caller c.args.key.now c.args.stripe.now c.hit_into.new.self
    (may-here c.caller_numbers.ensures _ _ _ (sym c.is_clear.ensures ∙ c.if-not-is_clear.false) c.requires.may) c.hit_into.ensures.none c.hit_into.ensures.some

pub returns-clause-made : goal.returns-clause-made
returns-clause-made c =
    made-hit c.hit_into.result c.hit_into.new.value c.args.value.now c.args.caller c.args.key.now c.args.stripe.now c.hit_into.new.self c.requires.live
    (may-here c.caller_numbers.ensures _ _ _ (sym c.is_clear.ensures ∙ c.if-not-is_clear.false) c.requires.may) c.hit_into.ensures.none c.hit_into.ensures.missing c.hit_into.ensures.some

pub returns-then-not-is_clear-clause-made : goal.returns-then-not-is_clear-clause-made
returns-then-not-is_clear-clause-made c = record { same = refl; why = inl (sym c.is_clear.ensures ∙ c.if-not-is_clear.true) }

pub returns-clause-stays : goal.returns-clause-stays
returns-clause-stays c = stays-unhit c.hit_into.result c.hit_into.new.value c.args.value.now c.args.stripe.now c.hit_into.new.self c.hit_into.ensures.none
