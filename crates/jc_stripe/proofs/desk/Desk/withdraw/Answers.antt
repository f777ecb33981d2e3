use Rattle.std.proofs.Common.{◌≡◌, ◌==◌, ◌≤◌, inl, inr, ℕ, map, position, is_some, ap, sym, refl, ◌∙◌, subst}
use Rattle.jc_types.specs.declared.limits.TheConstants.{RESERVATIONS_MAX}
use Rattle.jc_stripe.specs.State.{State, without_key}
use Rattle.jc_stripe.specs.OnePhase.{IsPhaseOf}
use Rattle.jc_stripe.proofs.Ending.{given_back}
use Rattle.jc_stripe.proofs.Uniform.{one_uniform}
use Rattle.jc_stripe.proofs.Own.{own_left}
use Rattle.jc_stripe.specs.DeskState.{DeskState}
use Rattle.jc_stripe.specs.DeskPhases.{WithdrawsAtDesk, ticket_of}
use Rattle.jc_stripe.proofs.DeskNumbers.{left_same}
use Rattle.jc_stripe.proofs.DeskTickets.{taken, ticket_nowhere}
use Rattle.jc_stripe.proofs.DeskStates.{desk_ends, dissolved_joined}
use Rattle.jc_stripe.proofs.desk.Desk.withdraw.Goals as goal

pub note_withdrawal-requires : goal.note_withdrawal-requires
note_withdrawal-requires c =
    let t = taken (λ b. b.value) c.self.inside.stripe c.self.inside.tickets.items c.remove-ticket.new.self.items c.args.number c.in-Some.place c.remove-ticket.result c.events_len.ensures.reached c.self.invariant.1.tickets_are
    (ap (position (λ b. b.value.number == c.args.number)) (sym c.deref.ensures.value) ∙ sym c.place_of.ensures ∙ c.in-Some.is) c.remove-ticket.ensures.value c.remove-ticket.ensures.items in
    record { out = t.out }

pub invariant_of-self : goal.invariant_of-self
invariant_of-self c =
    let t = taken (λ b. b.value) c.self.inside.stripe c.self.inside.tickets.items c.remove-ticket.new.self.items c.args.number c.in-Some.place c.remove-ticket.result c.events_len.ensures.reached c.self.invariant.1.tickets_are
    (ap (position (λ b. b.value.number == c.args.number)) (sym c.deref.ensures.value) ∙ sym c.place_of.ensures ∙ c.in-Some.is) c.remove-ticket.ensures.value c.remove-ticket.ensures.items in
    let old = c.self.inside.stripe in
    let new = c.note_withdrawal.new.stripe in
    let r = c.remove-ticket.result.value in
    let gives = c.note_withdrawal.ensures.gives_back in
    let back = given_back old new r c.events_len.ensures.reached gives in
    let quiet = back.2 in
    let is = back.1.1 in
    let phase : IsPhaseOf r.caller.session old new = inr (inr (inr (inl (record { reservation = r; own = refl; gives_back = gives })))) in
    let rs : new.reservations ≡ without_key r.key old.reservations = quiet.reservations ∙ ap (λ (s : State). s.reservations) is in (
      subst (λ (n : ℕ). RESERVATIONS_MAX ≤ n) (sym c.remove-ticket.ensures.capacity) c.self.invariant.0,
      desk_ends old new _ (map (λ b. b.value) c.remove-ticket.new.self.items) c.self.inside.next_call r.key c.self.invariant.1 rs (t.left ∙ sym rs)
          (quiet.grows.same.origin ∙ ap (λ (s : State). s.origin) is) (quiet.grows.same.lives ∙ ap (λ (s : State). s.lives) is)
          (dissolved_joined old new r.number c.self.inside.next_call (quiet.joiners ∙ ap (λ (s : State). s.joiners) is) c.self.invariant.1.joined_below)
          (left_same one_uniform old new r.caller.session c.self.inside.next_call c.events_len.ensures.reached c.self.invariant.1.before phase
          (own_left.gives_back old new r.caller.session r c.events_len.ensures.reached gives)),
    )

pub returns-clause-done : goal.returns-clause-done
returns-clause-done c =
    let t = taken (λ b. b.value) c.self.inside.stripe c.self.inside.tickets.items c.remove-ticket.new.self.items c.args.number c.in-Some.place c.remove-ticket.result c.events_len.ensures.reached c.self.invariant.1.tickets_are
    (ap (position (λ b. b.value.number == c.args.number)) (sym c.deref.ensures.value) ∙ sym c.place_of.ensures ∙ c.in-Some.is) c.remove-ticket.ensures.value c.remove-ticket.ensures.items in
    subst (λ (d : DeskState). WithdrawsAtDesk d c.args.number c.note_withdrawal.new.self (record { stripe = c.note_withdrawal.new.stripe; next = c.self.inside.next_call; keeps_events = c.self.inside.keeps_events })) c.self.view_is (record {
      reservation = c.remove-ticket.result.value;
      ticket = t.ticket;
      gives_back = c.note_withdrawal.ensures.gives_back;
      moves_are = c.note_withdrawal.ensures.moves;
      rest = refl;
    })

pub returns-in_default-clause-out : goal.returns-in_default-clause-out
returns-in_default-clause-out c =
    sym (ap is_some (ticket_nowhere (λ b. b.value) c.self.inside.stripe c.self.inside.tickets.items c.args.number c.self.invariant.1.tickets_are
    (ap (position (λ b. b.value.number == c.args.number)) (sym c.deref.ensures.value) ∙ sym c.place_of.ensures ∙ c.in_default.is)))
    ∙ ap (λ (d : DeskState). is_some (ticket_of d.stripe c.args.number)) c.self.view_is

pub returns-clause-out : goal.returns-clause-out
returns-clause-out c =
    let t = taken (λ b. b.value) c.self.inside.stripe c.self.inside.tickets.items c.remove-ticket.new.self.items c.args.number c.in-Some.place c.remove-ticket.result c.events_len.ensures.reached c.self.invariant.1.tickets_are
    (ap (position (λ b. b.value.number == c.args.number)) (sym c.deref.ensures.value) ∙ sym c.place_of.ensures ∙ c.in-Some.is) c.remove-ticket.ensures.value c.remove-ticket.ensures.items in
    sym (ap is_some t.ticket) ∙ ap (λ (d : DeskState). is_some (ticket_of d.stripe c.args.number)) c.self.view_is
