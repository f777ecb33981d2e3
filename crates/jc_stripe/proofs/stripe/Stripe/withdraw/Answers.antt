use Rattle.std.proofs.Common.{◌∙◌, ap, inl, inr, refl}
use Rattle.jc_stripe.specs.declared.ticket.Reservation.{Reservation}
use Rattle.jc_stripe.specs.State.{is_reserved}
use Rattle.jc_stripe.specs.Invalidating.{GivesBack}
use Rattle.jc_stripe.proofs.Ending.{given_free, given_place, gives_back_from}
use Rattle.jc_stripe.proofs.stripe.Stripe.withdraw.Goals as goal

pub settle_given-requires-clause-free : goal.settle_given-requires-clause-free
settle_given-requires-clause-free c =
    ap (λ (r : Reservation). is_reserved c.give_back.new.self r.key) c.deref.ensures ∙ given_free c.args.self.now c.give_back.new.self c.spend-reservation.result.value c.give_back.ensures

pub settle_given-requires-clause-place : goal.settle_given-requires-clause-place
settle_given-requires-clause-place c = λ there. given_place c.args.self.now c.give_back.new.self c.spend-reservation.result.value c.events_len.ensures.reached c.give_back.ensures

given : (c : goal.After-settle_given) → GivesBack c.args.self.now c.args.ticket.reservation c.settle_given.new.self
given c =
    gives_back_from c.args.self.now c.give_back.new.self c.settle_given.new.self c.args.ticket.reservation c.spend-reservation.result.value c.deref.result.now.key c.is_marked-is_marked.result c.spend-reservation.ensures
    (ap (λ (r : Reservation). r.key) c.deref.ensures) c.is_marked-is_marked.ensures c.give_back.ensures c.settle_given.ensures

pub returns-clause-gives_back : goal.returns-clause-gives_back
returns-clause-gives_back c = given c

pub returns-clause-phase : goal.returns-clause-phase
returns-clause-phase c = inr (inr (inr (inl (record { reservation = c.args.ticket.reservation; own = refl; gives_back = given c }))))
