use Rattle.std.proofs.Common.{arith, length, MatchBool, is_some, ◌≡◌, ◌∙◌, ◌↔◌, IsTrue, None, true, sym, ap, subst}
use Rattle.jc_model.specs.Cache.{entry_at}
use Rattle.jc_reserve.specs.Reserving.{CanReserve}
use Rattle.jc_reserve.specs.Reserving as reserving
use Rattle.jc_stripe.specs.declared.ticket.First.{First}
use Rattle.jc_stripe.specs.declared.ticket.Reservation.{Reservation}
use Rattle.jc_stripe.specs.State.{State, new_reservation, with_reservation}
use Rattle.jc_stripe.specs.Refusals.{first_refusal, first_asked, needs_reservation}
use Rattle.jc_stripe.specs.Phases.{MayBegin}
use Rattle.jc_stripe.specs.Inside.{state_of}
use Rattle.jc_stripe.proofs.Refusing.{few_out}
use Rattle.jc_stripe.proofs.Making.{table_made, reserve_made, reserve_sound}
use Rattle.jc_stripe.proofs.stripe.Stripe.reserve.Goals as goal

pub take-reservation-requires : goal.take-reservation-requires
take-reservation-requires c =
    let few = few_out c.args.self.now c.args.caller c.args.key.now c.args.op.now c.requires.free c.requires.needs in
    let same = ap (λ (s : State). length s.reservations) c.self.view_is in
    let boxes = c.self.invariant.boxes in
    omega arith

free_inside : (c : goal.After-new) → first_refusal (state_of c.self.inside) c.args.caller c.args.key.now c.args.op.now ≡ None
free_inside c = subst (λ (s : State). first_refusal s c.args.caller c.args.key.now c.args.op.now ≡ None) (sym c.self.view_is) c.requires.free

needs_inside : (c : goal.After-new) → needs_reservation (state_of c.self.inside) c.args.key.now c.args.op.now ≡ true
needs_inside c = subst (λ (s : State). needs_reservation s c.args.key.now c.args.op.now ≡ true) (sym c.self.view_is) c.requires.needs

abbrev claim : (c : goal.After-new) → Reservation
claim c = record { caller = c.args.caller; key = c.args.key.now; op = c.args.op.now; number = c.next_number.result; first = c.write_first_asked.new.first }

-- whom the call asks, in the fields' state and in the stripe's
asked_inside : (c : goal.After-new) → first_asked c.self.inside.config c.args.op.now (entry_at (state_of c.self.inside).cache c.args.key.now) ≡ c.write_first_asked.new.first
asked_inside c =
    ap (first_asked c.self.inside.config c.args.op.now) (ap (λ (s : State). entry_at s.cache c.args.key.now) c.self.view_is ∙ sym c.requires.entry)
    ∙ sym c.write_first_asked.ensures

asked : (c : goal.After-new) → c.write_first_asked.new.first ≡ first_asked c.args.self.now.config c.args.op.now c.args.entry.now
asked c = c.write_first_asked.ensures ∙ ap (λ (s : State). first_asked s.config c.args.op.now c.args.entry.now) c.self.view_is

table_is : (c : goal.After-new)
    → c.reserve.new.self ≡ reserving.table_with c.self.inside.reservations (new_reservation (state_of c.self.inside) c.args.caller c.args.key.now c.args.op.now c.write_first_asked.new.first)
table_is c =
    let Reserves : Reservation → Type 0 = λ r. (IsTrue (is_some c.reserve.result) ↔ CanReserve (λ (x : Reservation). x.key) c.self.inside.reservations r.key)
    × MatchBool (is_some c.reserve.result) (c.reserve.new.self ≡ reserving.table_with c.self.inside.reservations r) (c.reserve.new.self ≡ c.self.inside.reservations) in
    let same : c.deref.result.now ≡ claim c =
    c.deref.ensures ∙ ap (λ (r : Reservation). record { caller = r.caller; key = r.key; op = r.op; number = r.number; first = c.write_first_asked.new.first }) c.set_call.ensures in
    let reserves = subst Reserves same (c.reserve.ensures.can, c.reserve.ensures.table) in
    table_made c.self.inside c.args.caller c.args.key.now c.args.op.now c.write_first_asked.new.first c.next_number.result (is_some c.reserve.result) c.reserve.new.self (free_inside c) (needs_inside c)
    c.next_number.ensures reserves.0 reserves.1

pub invariant_of-self : goal.invariant_of-self
invariant_of-self c =
    let back = sym c.self.view_is in
    let May : State → Type 0 = λ s. MayBegin s c.args.caller c.args.key.now in
    reserve_sound c.self.inside c.args.caller c.args.key.now c.args.op.now c.write_first_asked.new.first c.reserve.new.self c.promise.new.self c.take-reservation.new.self c.promise.result c.self.invariant c.take-reservation.ensures
    (free_inside c) (needs_inside c) (asked_inside c) (subst May back c.requires.begins)
    (table_is c) c.promise.ensures.fits c.promise.ensures.after

pub returns-clause-reserved : goal.returns-clause-reserved
returns-clause-reserved c =
    let Reserved : State → First → State = λ s first. with_reservation s (new_reservation s c.args.caller c.args.key.now c.args.op.now first) in
    reserve_made c.self.inside c.args.caller c.args.key.now c.args.op.now c.write_first_asked.new.first c.reserve.new.self c.promise.new.self c.take-reservation.new.self c.promise.result c.self.invariant
    (free_inside c) (needs_inside c) (table_is c) c.promise.ensures.fits c.promise.ensures.after
    ∙ ap (λ (s : State). Reserved s c.write_first_asked.new.first) c.self.view_is
    ∙ ap (Reserved c.args.self.now) (asked c)
