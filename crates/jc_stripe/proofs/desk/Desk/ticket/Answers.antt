use Rattle.std.proofs.Common.{◌==◌, ◌∙◌, position, Some, ap, sym}
use Rattle.jc_stripe.specs.DeskState.{DeskState}
use Rattle.jc_stripe.specs.DeskPhases.{ticket_of}
use Rattle.jc_stripe.proofs.DeskTickets.{ticket_nowhere, ticket_placed}
use Rattle.jc_stripe.proofs.desk.Desk.ticket.Goals as goal

pub returns-in-Some : goal.returns-in-Some
returns-in-Some c =
    let t = ticket_placed (λ b. b.value) c.self.inside.stripe c.self.inside.tickets.items c.args.number c.self.invariant.1.tickets_are c.in-Some.place c.index.result.now
    (ap (position (λ b. b.value.number == c.args.number)) (sym c.deref.ensures.value) ∙ sym c.place_of.ensures ∙ c.in-Some.is) c.index.ensures in
    ap Some c.deref-in-Some.ensures ∙ sym t ∙ ap (λ (d : DeskState). ticket_of d.stripe c.args.number) c.self.view_is

pub returns-in-None : goal.returns-in-None
returns-in-None c =
    let none = ticket_nowhere (λ b. b.value) c.self.inside.stripe c.self.inside.tickets.items c.args.number c.self.invariant.1.tickets_are
    (ap (position (λ b. b.value.number == c.args.number)) (sym c.deref.ensures.value) ∙ sym c.place_of.ensures ∙ c.in-None.is) in
    sym none ∙ ap (λ (d : DeskState). ticket_of d.stripe c.args.number) c.self.view_is
