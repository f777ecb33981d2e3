use Rattle.std.proofs.Common.{◌≡◌, false, ◌+◌, inl, inr, map, length, ap, sym, refl, ◌∙◌, subst, arith}
use Rattle.jc_model.specs.declared.event.Op.TheVariants.{Get}
use Rattle.jc_stripe.specs.State.{State}
use Rattle.jc_stripe.specs.Phases.{hit_done}
use Rattle.jc_stripe.specs.OnePhase.{IsPhaseOf}
use Rattle.jc_stripe.specs.Outcomes as begun
use Rattle.jc_stripe.proofs.Uniform.{one_uniform}
use Rattle.jc_stripe.proofs.Own.{own_left}
use Rattle.jc_stripe.proofs.OwnNumbers.{own_numbers}
use Rattle.jc_stripe.proofs.WholeCalls.{caller_numbers}
use Rattle.jc_stripe.specs.DeskState.{DeskState, IsDesk}
use Rattle.jc_stripe.specs.DeskPhases.{HitsAtDesk, hits_next}
use Rattle.jc_stripe.proofs.DeskNumbers.{may_behind, begun_done}
use Rattle.jc_stripe.proofs.DeskStates.{no_hit, renewed_clear, renewed_desk, desk_same, same_joined}
use Rattle.jc_stripe.proofs.desk.Desk.hit.Goals as goal

pub hit_into-requires : goal.hit_into-requires
hit_into-requires c = record { begins = (may_behind caller_numbers own_numbers c.renew_if_full.new.self (record { session = c.args.session; call = c.self.inside.next_call }) c.args.key.now (renewed_desk c.self.inside.stripe c.renew_if_full.new.self _ _ c.renew_if_full.ensures c.self.invariant.1).before (renewed_clear c.self.inside.stripe c.renew_if_full.new.self (record { session = c.args.session; call = c.self.inside.next_call }) c.args.key.now c.renew_if_full.ensures ∙ sym c.if-not-is_clear.ensures)) }

pub invariant_of-self : goal.invariant_of-self
invariant_of-self c = (c.self.invariant.0, subst (λ (s : State). IsDesk s (map (λ b. b.value) c.self.inside.tickets.items) c.self.inside.next_call) (sym c.if-not-hit_into.ensures.none.0) (renewed_desk c.self.inside.stripe c.renew_if_full.new.self _ _ c.renew_if_full.ensures c.self.invariant.1))

pub invariant_of-self-2 : goal.invariant_of-self-2
invariant_of-self-2 c =
    let m = c.renew_if_full.new.self in
    let new = c.hit_into.new.self in
    let begins = c.if-not-hit_into.ensures.some in
    let steps = begins.2 in
    let phase : IsPhaseOf c.args.session m new = inr (inl (record { caller = (record { session = c.args.session; call = c.self.inside.next_call }); key = c.args.key.now; op = Get; begun = begun.Done (hit_done (length m.history) c.hit_into.new.value); own = refl; may = (may_behind caller_numbers own_numbers c.renew_if_full.new.self (record { session = c.args.session; call = c.self.inside.next_call }) c.args.key.now (renewed_desk c.self.inside.stripe c.renew_if_full.new.self _ _ c.renew_if_full.ensures c.self.invariant.1).before (renewed_clear c.self.inside.stripe c.renew_if_full.new.self (record { session = c.args.session; call = c.self.inside.next_call }) c.args.key.now c.renew_if_full.ensures ∙ sym c.if-not-is_clear.ensures)); begins = begins })) in (
      c.self.invariant.0,
      desk_same m new _ c.self.inside.next_call (c.self.inside.next_call + 1) (omega arith) (renewed_desk c.self.inside.stripe c.renew_if_full.new.self _ _ c.renew_if_full.ensures c.self.invariant.1) (ap (λ (s : State). s.reservations) steps.after) (ap (λ (s : State). s.origin) steps.after)
          (ap (λ (s : State). s.lives) steps.after)
          (same_joined m new c.self.inside.next_call (c.self.inside.next_call + 1) (omega arith) (ap (λ (s : State). s.joiners) steps.after) (renewed_desk c.self.inside.stripe c.renew_if_full.new.self _ _ c.renew_if_full.ensures c.self.invariant.1).joined_below)
          (begun_done caller_numbers own_numbers own_left one_uniform m new (record { session = c.args.session; call = c.self.inside.next_call }) c.args.key.now Get (hit_done (length m.history) c.hit_into.new.value) c.events_len-2.ensures.reached (renewed_desk c.self.inside.stripe c.renew_if_full.new.self _ _ c.renew_if_full.ensures c.self.invariant.1).before (renewed_clear c.self.inside.stripe c.renew_if_full.new.self (record { session = c.args.session; call = c.self.inside.next_call }) c.args.key.now c.renew_if_full.ensures ∙ sym c.if-not-is_clear.ensures) begins phase),
    )

pub returns-clause-some : goal.returns-clause-some
returns-clause-some c =
    subst (λ (d : DeskState). HitsAtDesk d c.args.session c.args.key.now c.hit_into.new.value c.self.inside.next_call (record { stripe = c.hit_into.new.self; next = c.self.inside.next_call + 1; keeps_events = c.self.inside.keeps_events })) c.self.view_is (record {
      between = c.renew_if_full.new.self;
      renews = c.renew_if_full.ensures;
      call_is = refl;
      begins = c.if-not-hit_into.ensures.some;
      rest = refl;
    })

pub returns-then-not-hit_into-clause-found : goal.returns-then-not-hit_into-clause-found
returns-then-not-hit_into-clause-found c =
    subst (λ (d : DeskState). false ≡ hits_next d c.args.session c.args.key.now) c.self.view_is
    (no_hit (record { stripe = c.self.inside.stripe; next = c.self.inside.next_call; keeps_events = c.self.inside.keeps_events }) c.args.session c.args.key.now c.renew_if_full.new.self c.renew_if_full.ensures c.if-not-hit_into.ensures.missing)
