use Rattle.std.proofs.Common.{◌∙◌, ap, sym, is_some, option_map, Bor}
use Rattle.jc_stripe.specs.declared.ticket.Reservation.{Reservation}
use Rattle.jc_stripe.specs.State.{State, is_reserved, reservation_of}
use Rattle.jc_stripe.specs.Refusals.{load_at}
use Rattle.jc_stripe.proofs.Inner.{reserved_found}
use Rattle.jc_stripe.proofs.stripe.Stripe.load_at.Goals as goal

pub returns-in-Some-clause-reserved : goal.returns-in-Some-clause-reserved
returns-in-Some-clause-reserved c =
    ap is_some (ap (option_map (λ (r : Bor Reservation). r.now)) (sym c.in-Some.is) ∙ c.find.ensures.found)
    ∙ reserved_found c.self.inside c.args.key.now ∙ ap (λ (s : State). is_reserved s c.args.key.now) c.self.view_is

pub returns-in-Some-clause-load : goal.returns-in-Some-clause-load
returns-in-Some-clause-load c =
    c.load_of.ensures ∙ ap load_at (ap (option_map (λ (r : Bor Reservation). r.now)) (sym c.in-Some.is) ∙ c.find.ensures.found)
    ∙ ap (λ (s : State). load_at (reservation_of s c.args.key.now)) c.self.view_is

pub returns-in-None-clause-reserved : goal.returns-in-None-clause-reserved
returns-in-None-clause-reserved c =
    ap is_some (ap (option_map (λ (r : Bor Reservation). r.now)) (sym c.in-None.is) ∙ c.find.ensures.found)
    ∙ reserved_found c.self.inside c.args.key.now ∙ ap (λ (s : State). is_reserved s c.args.key.now) c.self.view_is

pub returns-in-None-clause-load : goal.returns-in-None-clause-load
returns-in-None-clause-load c =
    ap load_at (ap (option_map (λ (r : Bor Reservation). r.now)) (sym c.in-None.is) ∙ c.find.ensures.found)
    ∙ ap (λ (s : State). load_at (reservation_of s c.args.key.now)) c.self.view_is
