use Rattle.std.proofs.Common.{Option, None, ◌≡◌, ◌==◌, ◌<◌, ◌≤◌, inl, inr, ℕ, map, position, Some, ap, sym, refl, ◌∙◌, subst}
use Rattle.std.proofs.lemmas.List.{length-map}
use Rattle.std.proofs.lemmas.List.Sums.{length-filter}
use Rattle.jc_types.specs.declared.limits.TheConstants.{RESERVATIONS_MAX}
use Rattle.jc_inflight.specs.Joining.{waits_for}
use Rattle.jc_stripe.specs.State.{State, without_key}
use Rattle.jc_stripe.specs.Phases.{with_reply}
use Rattle.jc_stripe.specs.OnePhase.{IsPhaseOf}
use Rattle.jc_stripe.specs.declared.ticket.Reservation.{Reservation}
use Rattle.jc_stripe.proofs.Ending.{ended}
use Rattle.jc_stripe.proofs.Uniform.{one_uniform}
use Rattle.jc_stripe.proofs.Own.{own_left}
use Rattle.jc_stripe.specs.DeskState.{DeskState}
use Rattle.jc_stripe.specs.DeskPhases.{CommitsAtDesk}
use Rattle.jc_stripe.proofs.DeskNumbers.{committed}
use Rattle.jc_stripe.proofs.DeskTickets.{taken, ticket_nowhere}
use Rattle.jc_stripe.proofs.DeskStates.{desk_ends, resolved_joined}
use Rattle.jc_stripe.proofs.desk.Desk.commit.Goals as goal
use Rattle.jc_stripe.specs.DeskPhases.{AnswersTicket, ticket_of}
use Rattle.jc_stripe.specs.Appending.{AnswersFirst}

same_ticket : (o : Option Reservation) (x y : Reservation) → o ≡ Some x → o ≡ Some y → x ≡ y
same_ticket None x y p q = cc
same_ticket (Some z) x y p q = cc

none_and_some : (o : Option Reservation) (x : Reservation) → o ≡ None → o ≡ Some x → ⊥
none_and_some None x p q = cc
none_and_some (Some z) x p q = cc

pub unreachable-requires : goal.unreachable-requires
unreachable-requires c =
    let none = ticket_nowhere (λ b. b.value) c.self.inside.stripe c.self.inside.tickets.items c.args.number c.self.invariant.1.tickets_are
    (ap (position (λ b. b.value.number == c.args.number)) (sym c.deref.ensures.value) ∙ sym c.place_of.ensures ∙ c.in_default.is) in
    let asked : AnswersTicket c.self.inside.stripe c.args.number c.args.out.now = subst (λ (d : DeskState). AnswersTicket d.stripe c.args.number c.args.out.now) (sym c.self.view_is) c.requires in
    none_and_some (ticket_of c.self.inside.stripe c.args.number) asked.0 none asked.1

pub note_commit-step-requires-clause-out : goal.note_commit-step-requires-clause-out
note_commit-step-requires-clause-out c =
    let t = taken (λ b. b.value) c.self.inside.stripe c.self.inside.tickets.items c.remove-ticket.new.self.items c.args.number c.in-Some.place c.remove-ticket.result c.events_len.ensures.reached c.self.invariant.1.tickets_are
    (ap (position (λ b. b.value.number == c.args.number)) (sym c.deref.ensures.value) ∙ sym c.place_of.ensures ∙ c.in-Some.is) c.remove-ticket.ensures.value c.remove-ticket.ensures.items in
    t.out

pub note_commit-step-requires-clause-answers : goal.note_commit-step-requires-clause-answers
note_commit-step-requires-clause-answers c =
    let t = taken (λ b. b.value) c.self.inside.stripe c.self.inside.tickets.items c.remove-ticket.new.self.items c.args.number c.in-Some.place c.remove-ticket.result c.events_len.ensures.reached c.self.invariant.1.tickets_are
    (ap (position (λ b. b.value.number == c.args.number)) (sym c.deref.ensures.value) ∙ sym c.place_of.ensures ∙ c.in-Some.is) c.remove-ticket.ensures.value c.remove-ticket.ensures.items in
    let asked : AnswersTicket c.self.inside.stripe c.args.number c.args.out.now = subst (λ (d : DeskState). AnswersTicket d.stripe c.args.number c.args.out.now) (sym c.self.view_is) c.requires in
    subst (λ (r : Reservation). AnswersFirst c.self.inside.stripe.config r.first c.args.out.now) (same_ticket (ticket_of c.self.inside.stripe c.args.number) asked.0 c.remove-ticket.result.value asked.1 t.ticket) asked.2

pub invariant_of-self : goal.invariant_of-self
invariant_of-self c =
    let t = taken (λ b. b.value) c.self.inside.stripe c.self.inside.tickets.items c.remove-ticket.new.self.items c.args.number c.in-Some.place c.remove-ticket.result c.events_len.ensures.reached c.self.invariant.1.tickets_are
    (ap (position (λ b. b.value.number == c.args.number)) (sym c.deref.ensures.value) ∙ sym c.place_of.ensures ∙ c.in-Some.is) c.remove-ticket.ensures.value c.remove-ticket.ensures.items in
    let old = c.self.inside.stripe in
    let new = c.note_commit-step.new.stripe in
    let r = c.remove-ticket.result.value in
    let ends = c.note_commit-step.ensures.ends in
    let e = ended old new r c.args.out.now _ c.events_len.ensures.reached ends in
    let quiet = e.quiet in
    let steps = e.commits.1 in
    let phase : IsPhaseOf r.caller.session old new =
    inr (inr (inl (record { reservation = r; out = c.args.out.now; done = with_reply c.note_commit-step.result c.note_commit-step.new.reply; own = refl; ends = ends }))) in
    let rs : new.reservations ≡ without_key r.key old.reservations = quiet.reservations ∙ ap (λ (s : State). s.reservations) steps.after in
    let low : r.caller.call < c.self.inside.next_call = subst (λ (x : Reservation). x.caller.call < c.self.inside.next_call) (sym t.here) (c.self.invariant.1.below c.in-Some.place c.remove-ticket.result.value t.within) in (
      subst (λ (n : ℕ). RESERVATIONS_MAX ≤ n) (sym c.remove-ticket.ensures.capacity) c.self.invariant.0,
      desk_ends old new _ (map (λ b. b.value) c.remove-ticket.new.self.items) c.self.inside.next_call r.key c.self.invariant.1 rs (t.left ∙ sym rs)
          (quiet.grows.same.origin ∙ ap (λ (s : State). s.origin) steps.after) (quiet.grows.same.lives ∙ ap (λ (s : State). s.lives) steps.after)
          (resolved_joined old new r.number e.step.place c.self.inside.next_call (quiet.joiners ∙ ap (λ (s : State). s.joiners) steps.after) c.self.invariant.1.joined_below)
          (committed own_left one_uniform old new r _ _ c.self.inside.next_call low c.events_len.ensures.reached c.self.invariant.1.before ends phase),
    )

pub returns : goal.returns
returns c =
    let t = taken (λ b. b.value) c.self.inside.stripe c.self.inside.tickets.items c.remove-ticket.new.self.items c.args.number c.in-Some.place c.remove-ticket.result c.events_len.ensures.reached c.self.invariant.1.tickets_are
    (ap (position (λ b. b.value.number == c.args.number)) (sym c.deref.ensures.value) ∙ sym c.place_of.ensures ∙ c.in-Some.is) c.remove-ticket.ensures.value c.remove-ticket.ensures.items in
    let old = c.self.inside.stripe in
    let new = c.note_commit-step.new.stripe in
    subst (λ (d : DeskState). CommitsAtDesk d c.args.number c.args.out.now c.note_commit-step.new.reply c.note_commit-step.new.self (record { place = c.note_commit-step.result.place; shared = c.waiting-shared.result }) (record { stripe = new; next = c.self.inside.next_call; keeps_events = c.self.inside.keeps_events })) c.self.view_is (record {
      reservation = c.remove-ticket.result.value;
      ticket = t.ticket;
      done = with_reply c.note_commit-step.result c.note_commit-step.new.reply;
      ends = c.note_commit-step.ensures.ends;
      reply_is = refl;
      place = refl;
      shared = c.waiting-shared.ensures.count ∙ sym (length-filter (waits_for c.args.number) old.joiners) ∙ sym (length-map _ (λ j. j.caller));
      moves_are = c.note_commit-step.ensures.moves;
      rest = refl;
    })
