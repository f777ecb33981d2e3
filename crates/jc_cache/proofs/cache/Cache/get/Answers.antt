use Rattle.jc_cache.proofs.Common.{◌∙◌, ap, Bool, Ok, sym}
use Rattle.jc_cache.proofs.Rooms.{got_error, got_nothing, got_value}
use Rattle.jc_cache.proofs.cache.Cache.get.Goals as goal

pub returns-in-Ok-true : goal.returns-in-Ok-true
returns-in-Ok-true g c =
    let x = c.get_into.ensures.call in
    let is = c.in-Ok-true.is ∙ ap (λ (b : Bool). Ok b) c.in-Ok-true.field-0-test in
    record { may = c.get_into.ensures.may; call = (x.0, x.1, got_value _ c.get_into.new.value x.0 ((λ i. (sym is i, c.get_into.new.value)) ∙ x.2), x.3) }

pub returns-in-Ok-false : goal.returns-in-Ok-false
returns-in-Ok-false g c =
    let x = c.get_into.ensures.call in
    let is = c.in-Ok-false.is ∙ ap (λ (b : Bool). Ok b) c.in-Ok-false.field-0-test in
    record { may = c.get_into.ensures.may; call = (x.0, x.1, got_nothing _ c.get_into.new.value x.0 ((λ i. (sym is i, c.get_into.new.value)) ∙ x.2), x.3) }

pub returns-in-Err : goal.returns-in-Err
returns-in-Err g c =
    let x = c.get_into.ensures.call in
    record { may = c.get_into.ensures.may; call = (x.0, x.1, got_error _ c.get_into.new.value c.in-Err.fault x.0 ((λ i. (sym c.in-Err.is i, c.get_into.new.value)) ∙ x.2), x.3) }
