use Rattle.std.proofs.Common.{◌≡◌, ◌∙◌, sym, ap, Some, option_map, Bor}
use Rattle.jc_stripe.specs.declared.ticket.Reservation.{Reservation}
use Rattle.jc_stripe.specs.State.{State, reservation_of}
use Rattle.jc_stripe.proofs.stripe.Stripe.holds.Goals as goal

some_same : (x y : Reservation) → Some x ≡ Some y → x ≡ y
some_same x y h = cc

pub returns-in-Some : goal.returns-in-Some
returns-in-Some c =
    let found = ap (option_map (λ (r : Bor Reservation). r.now)) (sym c.in-Some.is) ∙ c.find.ensures.found ∙ ap (λ (s : State). reservation_of s c.args.reservation.now.key) c.self.view_is in
    (λ t. sym found ∙ ap Some (c.is_same_reservation.ensures.0 t), λ out. c.is_same_reservation.ensures.1 (some_same _ _ (found ∙ out)))
