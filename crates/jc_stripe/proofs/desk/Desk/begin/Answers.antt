use Rattle.std.proofs.Common.{◌≡◌, ◌≤◌, ◌+◌, ◌++◌, ◌∷◌, [], ℕ, List, map, length, ap, sym, refl, ◌∙◌, subst, arith}
use Rattle.std.proofs.lemmas.List.{length-map, map_push, length-append}
use Rattle.jc_types.specs.declared.limits.TheConstants.{RESERVATIONS_MAX}
use Rattle.jc_stripe.specs.State.{State}
use Rattle.jc_stripe.specs.Tickets.{TicketClaim, JoinClaim}
use Rattle.jc_stripe.specs.Phases.{with_reply, Begins}
use Rattle.jc_stripe.specs.declared.ticket.Reservation.{Reservation}
use Rattle.jc_stripe.specs.Outcomes as begun
use Rattle.jc_stripe.proofs.Uniform.{one_uniform}
use Rattle.jc_stripe.proofs.Own.{own_left}
use Rattle.jc_stripe.proofs.OwnNumbers.{own_numbers}
use Rattle.jc_stripe.proofs.WholeCalls.{caller_numbers}
use Rattle.jc_stripe.specs.declared.desk.answers.FirstAnswer.TheVariants as asked
use Rattle.jc_stripe.specs.DeskState.{DeskState, IsDesk, awaits_end}
use Rattle.jc_stripe.specs.DeskPhases.{BeginsAtDesk}
use Rattle.jc_stripe.proofs.DeskNumbers.{may_behind, begun_done, begun_same}
use Rattle.jc_stripe.proofs.DeskStates.{renewed_clear, renewed_desk, desk_same, desk_reserves, same_joined, one_joined, may_call, newest_reserved}
use Rattle.jc_stripe.proofs.desk.Desk.begin.Goals as goal

pub note_begin-requires : goal.note_begin-requires
note_begin-requires c = record { begins = (may_behind caller_numbers own_numbers c.renew_if_full.new.self (record { session = c.args.session; call = c.self.inside.next_call }) c.args.key.now (renewed_desk c.self.inside.stripe c.renew_if_full.new.self _ _ c.renew_if_full.ensures c.self.invariant.1).before (renewed_clear c.self.inside.stripe c.renew_if_full.new.self (record { session = c.args.session; call = c.self.inside.next_call }) c.args.key.now c.renew_if_full.ensures ∙ sym c.if-not-is_clear.ensures)) }

pub invariant_of-self : goal.invariant_of-self
invariant_of-self c = (
  c.self.invariant.0,
  desk_same c.renew_if_full.new.self c.note_begin.new.stripe _ c.self.inside.next_call (c.self.inside.next_call + 1) (omega arith) (renewed_desk c.self.inside.stripe c.renew_if_full.new.self _ _ c.renew_if_full.ensures c.self.invariant.1) (ap (λ (s : State). s.reservations) c.in-Done.ensures.begins.2.after) (ap (λ (s : State). s.origin) c.in-Done.ensures.begins.2.after)
      (ap (λ (s : State). s.lives) c.in-Done.ensures.begins.2.after) (same_joined c.renew_if_full.new.self c.note_begin.new.stripe c.self.inside.next_call (c.self.inside.next_call + 1) (omega arith) (ap (λ (s : State). s.joiners) c.in-Done.ensures.begins.2.after) (renewed_desk c.self.inside.stripe c.renew_if_full.new.self _ _ c.renew_if_full.ensures c.self.invariant.1).joined_below) (begun_done caller_numbers own_numbers own_left one_uniform c.renew_if_full.new.self c.note_begin.new.stripe (record { session = c.args.session; call = c.self.inside.next_call }) c.args.key.now c.args.op.now _ c.events_len-2.ensures.reached (renewed_desk c.self.inside.stripe c.renew_if_full.new.self _ _ c.renew_if_full.ensures c.self.invariant.1).before (renewed_clear c.self.inside.stripe c.renew_if_full.new.self (record { session = c.args.session; call = c.self.inside.next_call }) c.args.key.now c.renew_if_full.ensures ∙ sym c.if-not-is_clear.ensures) c.in-Done.ensures.begins c.in-Done.ensures.phase),
)

pub push_reserved-requires : goal.push_reserved-requires
push_reserved-requires c =
    let few = (one_uniform c.args.session c.renew_if_full.new.self c.note_begin.new.stripe c.events_len-2.ensures.reached c.in-Asks.ensures.phase).reached.few_reservations in
    let more : length c.note_begin.new.stripe.reservations ≡ length (c.renew_if_full.new.self.reservations ++ c.in-Asks.ticket.reservation ∷ []) = ap (λ (s : State). length s.reservations) c.in-Asks.ensures.begins.5 in
    let kept : length (map (λ b. b.value) c.self.inside.tickets.items) ≡ length c.renew_if_full.new.self.reservations = ap length (renewed_desk c.self.inside.stripe c.renew_if_full.new.self _ _ c.renew_if_full.ensures c.self.invariant.1).tickets_are in
    let long = length-map c.self.inside.tickets.items (λ b. b.value) in
    let one = length-append c.renew_if_full.new.self.reservations (c.in-Asks.ticket.reservation ∷ []) in
    omega (arith, few, more, kept, long, one, c.self.invariant.0, c.self.inside.tickets.ok.0)

pub invariant_of-self-in-Asks : goal.invariant_of-self-in-Asks
invariant_of-self-in-Asks c =
    let r = c.in-Asks.ticket.reservation in
    let items = c.self.inside.tickets.items in
    let pushed : map (λ b. b.value) c.push_reserved.new.self.items ≡ map (λ b. b.value) items ++ r ∷ [] =
    ap (map (λ b. b.value)) c.push_reserved.ensures.items ∙ map_push (λ b. b.value) items c.spend-kept.result ∙ ap (λ x. map (λ b. b.value) items ++ x ∷ []) c.spend-kept.ensures in (
      subst (λ (n : ℕ). RESERVATIONS_MAX ≤ n) (sym c.push_reserved.ensures.capacity) c.self.invariant.0,
      subst (λ (xs : List Reservation). IsDesk c.note_begin.new.stripe xs (c.self.inside.next_call + 1)) (sym pushed)
          (desk_reserves c.renew_if_full.new.self c.note_begin.new.stripe (map (λ b. b.value) items) c.self.inside.next_call r (renewed_desk c.self.inside.stripe c.renew_if_full.new.self _ _ c.renew_if_full.ensures c.self.invariant.1) c.in-Asks.ensures.begins.5 (ap (λ (t : TicketClaim). t.reservation.caller.call) c.in-Asks.ensures.begins.4)
          (begun_same one_uniform c.renew_if_full.new.self c.note_begin.new.stripe c.args.session c.self.inside.next_call c.events_len-2.ensures.reached (renewed_desk c.self.inside.stripe c.renew_if_full.new.self _ _ c.renew_if_full.ensures c.self.invariant.1).before c.in-Asks.ensures.phase
          (own_left.reserves c.renew_if_full.new.self c.note_begin.new.stripe (record { session = c.args.session; call = c.self.inside.next_call }) c.args.key.now c.args.op.now c.in-Asks.ticket c.in-Asks.ensures.begins))),
    )

pub invariant_of-self-in-Joined : goal.invariant_of-self-in-Joined
invariant_of-self-in-Joined c = (
  c.self.invariant.0,
  desk_same c.renew_if_full.new.self c.note_begin.new.stripe _ c.self.inside.next_call (c.self.inside.next_call + 1) (omega arith) (renewed_desk c.self.inside.stripe c.renew_if_full.new.self _ _ c.renew_if_full.ensures c.self.invariant.1) (ap (λ (s : State). s.reservations) c.in-Joined.ensures.begins.3) (ap (λ (s : State). s.origin) c.in-Joined.ensures.begins.3)
      (ap (λ (s : State). s.lives) c.in-Joined.ensures.begins.3) (one_joined c.renew_if_full.new.self c.note_begin.new.stripe c.in-Joined.join c.self.inside.next_call (ap (λ (j : JoinClaim). j.caller.call) c.in-Joined.ensures.begins.2) c.in-Joined.ensures.begins.3 (renewed_desk c.self.inside.stripe c.renew_if_full.new.self _ _ c.renew_if_full.ensures c.self.invariant.1).joined_below) (begun_same one_uniform c.renew_if_full.new.self c.note_begin.new.stripe c.args.session c.self.inside.next_call c.events_len-2.ensures.reached (renewed_desk c.self.inside.stripe c.renew_if_full.new.self _ _ c.renew_if_full.ensures c.self.invariant.1).before c.in-Joined.ensures.phase
      (own_left.joins c.renew_if_full.new.self c.note_begin.new.stripe (record { session = c.args.session; call = c.self.inside.next_call }) c.args.key.now c.args.op.now c.in-Joined.join c.in-Joined.ensures.begins)),
)

pub invariant_of-self-in-Refused : goal.invariant_of-self-in-Refused
invariant_of-self-in-Refused c = (
  c.self.invariant.0,
  desk_same c.renew_if_full.new.self c.note_begin.new.stripe _ c.self.inside.next_call (c.self.inside.next_call + 1) (omega arith) (renewed_desk c.self.inside.stripe c.renew_if_full.new.self _ _ c.renew_if_full.ensures c.self.invariant.1) (ap (λ (s : State). s.reservations) c.in-Refused.ensures.begins.1) (ap (λ (s : State). s.origin) c.in-Refused.ensures.begins.1)
      (ap (λ (s : State). s.lives) c.in-Refused.ensures.begins.1) (same_joined c.renew_if_full.new.self c.note_begin.new.stripe c.self.inside.next_call (c.self.inside.next_call + 1) (omega arith) (ap (λ (s : State). s.joiners) c.in-Refused.ensures.begins.1) (renewed_desk c.self.inside.stripe c.renew_if_full.new.self _ _ c.renew_if_full.ensures c.self.invariant.1).joined_below) (begun_same one_uniform c.renew_if_full.new.self c.note_begin.new.stripe c.args.session c.self.inside.next_call c.events_len-2.ensures.reached (renewed_desk c.self.inside.stripe c.renew_if_full.new.self _ _ c.renew_if_full.ensures c.self.invariant.1).before c.in-Refused.ensures.phase
      (own_left.refused c.renew_if_full.new.self c.note_begin.new.stripe (record { session = c.args.session; call = c.self.inside.next_call }) c.args.key.now c.args.op.now c.in-Refused.refusal c.in-Refused.ensures.begins)),
)

pub returns-in-Done-clause-begins : goal.returns-in-Done-clause-begins
returns-in-Done-clause-begins c =
    subst (λ (d : DeskState). BeginsAtDesk d c.args.session c.self.inside.next_call c.args.key.now c.args.op.now c.note_begin.new.reply c.note_begin.new.self (asked.Done c.in-Done.step.place) (record { stripe = c.note_begin.new.stripe; next = c.self.inside.next_call + 1; keeps_events = c.self.inside.keeps_events })) c.self.view_is
    (record {
      may = may_call (record { stripe = c.self.inside.stripe; next = c.self.inside.next_call; keeps_events = c.self.inside.keeps_events }) c.args.session c.args.key.now c.if-call.false (sym c.if-not-is_clear.ensures);
      free = ap awaits_end c.self.view_is ∙ sym c.if-awaits_end.ensures;
      unshut = ap (λ (d : DeskState). d.stripe.shut) c.self.view_is ∙ sym c.if-is_shut.ensures;
      between = c.renew_if_full.new.self;
      renews = c.renew_if_full.ensures;
      call_is = refl;
      begins = (with_reply c.in-Done.step c.note_begin.new.reply, c.in-Done.ensures.begins, refl, refl, c.in-Done.ensures.moves);
      rest = refl;
    })

pub returns-in-Asks-clause-begins : goal.returns-in-Asks-clause-begins
returns-in-Asks-clause-begins c =
    subst (λ (d : DeskState). BeginsAtDesk d c.args.session c.self.inside.next_call c.args.key.now c.args.op.now c.note_begin.new.reply c.note_begin.new.self (asked.Asks c.deref.result.now.number) (record { stripe = c.note_begin.new.stripe; next = c.self.inside.next_call + 1; keeps_events = c.self.inside.keeps_events })) c.self.view_is
    (record {
      may = may_call (record { stripe = c.self.inside.stripe; next = c.self.inside.next_call; keeps_events = c.self.inside.keeps_events }) c.args.session c.args.key.now c.if-call.false (sym c.if-not-is_clear.ensures);
      free = ap awaits_end c.self.view_is ∙ sym c.if-awaits_end.ensures;
      unshut = ap (λ (d : DeskState). d.stripe.shut) c.self.view_is ∙ sym c.if-is_shut.ensures;
      between = c.renew_if_full.new.self;
      renews = c.renew_if_full.ensures;
      call_is = refl;
      begins = (
        c.in-Asks.ticket,
        c.in-Asks.ensures.begins,
        sym (ap (λ (r : Reservation). r.number) (c.deref.ensures ∙ c.spend-kept.ensures)),
        newest_reserved c.renew_if_full.new.self c.note_begin.new.stripe c.in-Asks.ticket.reservation c.in-Asks.ensures.begins.5,
      );
      rest = refl;
    })

pub returns-in-Joined-clause-begins : goal.returns-in-Joined-clause-begins
returns-in-Joined-clause-begins c =
    subst (λ (d : DeskState). BeginsAtDesk d c.args.session c.self.inside.next_call c.args.key.now c.args.op.now c.note_begin.new.reply c.note_begin.new.self (asked.Joined c.load-load.result) (record { stripe = c.note_begin.new.stripe; next = c.self.inside.next_call + 1; keeps_events = c.self.inside.keeps_events })) c.self.view_is
    (record {
      may = may_call (record { stripe = c.self.inside.stripe; next = c.self.inside.next_call; keeps_events = c.self.inside.keeps_events }) c.args.session c.args.key.now c.if-call.false (sym c.if-not-is_clear.ensures);
      free = ap awaits_end c.self.view_is ∙ sym c.if-awaits_end.ensures;
      unshut = ap (λ (d : DeskState). d.stripe.shut) c.self.view_is ∙ sym c.if-is_shut.ensures;
      between = c.renew_if_full.new.self;
      renews = c.renew_if_full.ensures;
      call_is = refl;
      begins = (subst (λ (j : JoinClaim). Begins c.renew_if_full.new.self (record { session = c.args.session; call = c.self.inside.next_call }) c.args.key.now c.args.op.now (begun.Joined j) c.note_begin.new.stripe)
          (c.in-Joined.ensures.begins.2 ∙ ap (λ (n : ℕ). record { caller = (record { session = c.args.session; call = c.self.inside.next_call }); key = c.args.key.now; load = n }) (sym c.load-load.ensures)) c.in-Joined.ensures.begins);
      rest = refl;
    })

pub returns-in-Refused-clause-begins : goal.returns-in-Refused-clause-begins
returns-in-Refused-clause-begins c =
    subst (λ (d : DeskState). BeginsAtDesk d c.args.session c.self.inside.next_call c.args.key.now c.args.op.now c.note_begin.new.reply c.note_begin.new.self (asked.Refused c.in-Refused.refusal) (record { stripe = c.note_begin.new.stripe; next = c.self.inside.next_call + 1; keeps_events = c.self.inside.keeps_events })) c.self.view_is
    (record {
      may = may_call (record { stripe = c.self.inside.stripe; next = c.self.inside.next_call; keeps_events = c.self.inside.keeps_events }) c.args.session c.args.key.now c.if-call.false (sym c.if-not-is_clear.ensures);
      free = ap awaits_end c.self.view_is ∙ sym c.if-awaits_end.ensures;
      unshut = ap (λ (d : DeskState). d.stripe.shut) c.self.view_is ∙ sym c.if-is_shut.ensures;
      between = c.renew_if_full.new.self;
      renews = c.renew_if_full.ensures;
      call_is = refl;
      begins = c.in-Refused.ensures.begins;
      rest = refl;
    })
