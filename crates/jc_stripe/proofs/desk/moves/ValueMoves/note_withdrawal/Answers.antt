use Rattle.std.proofs.Common.{◌∙◌, ap, subst}
use Rattle.jc_model.specs.Cache.{entry_at}
use Rattle.jc_stripe.specs.declared.ticket.Reservation.{Reservation}
use Rattle.jc_stripe.specs.Tickets.{TicketClaim}
use Rattle.jc_stripe.specs.Invalidating.{GivesBack}
use Rattle.jc_stripe.specs.ValuesMoved.{value_dropped, moves_of_drop}
use Rattle.jc_stripe.proofs.DeskForgetting.{given_others}
use Rattle.jc_stripe.proofs.desk.moves.ValueMoves.note_withdrawal.Goals as goal

pub returns-clause-gives_back : goal.returns-clause-gives_back
returns-clause-gives_back c = subst (λ (x : TicketClaim). GivesBack c.args.stripe.now x.reservation c.withdraw.new.self) c.new.ensures c.withdraw.ensures.gives_back

pub returns-clause-moves : goal.returns-clause-moves
returns-clause-moves c =
    let old = c.args.stripe.now in
    let new = c.withdraw.new.self in
    record {
      moves_are =
          c.note_drop.ensures ∙ ap moves_of_drop (λ i. value_dropped (c.note_before.ensures i) (c.entry.ensures i))
          ∙ ap (λ (r : Reservation). moves_of_drop (value_dropped (entry_at old.cache r.key) (entry_at new.cache r.key))) c.deref.ensures;
      others = given_others old new c.args.reservation.value
          (subst (λ (x : TicketClaim). GivesBack old x.reservation new) c.new.ensures c.withdraw.ensures.gives_back);
    }
