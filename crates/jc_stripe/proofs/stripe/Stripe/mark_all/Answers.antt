use Rattle.std.proofs.Common.{List, map, ap, sym, subst, ◌∙◌}
use Rattle.jc_model.specs.Cache.{Bytes}
use Rattle.jc_stripe.specs.Reached.{AreReserved}
use Rattle.jc_stripe.specs.State.{State}
use Rattle.jc_stripe.specs.Inside.{state_of}
use Rattle.jc_stripe.proofs.Dropping.{sound_retold}
use Rattle.jc_stripe.proofs.MarkedKeys.{marks_all}
use Rattle.jc_stripe.proofs.stripe.Stripe.mark_all.Goals as goal

pub invariant_of-self : goal.invariant_of-self
invariant_of-self c =
    let P : List Bytes → Type 0 = λ marked. AreReserved c.self.inside.reservations.held marked in
    sound_retold c.self.inside c.set.new.self c.self.inside.is_shut c.self.invariant (subst P (sym (c.set.ensures ∙ c.keys.ensures.keys)) (marks_all c.self.inside.reservations.held))

pub returns : goal.returns
returns c = ap (λ marks. record (state_of c.self.inside) { marked = marks }) (c.set.ensures ∙ c.keys.ensures.keys) ∙ ap (λ (s : State). record s { marked = map (λ r. r.key) s.reservations }) c.self.view_is
