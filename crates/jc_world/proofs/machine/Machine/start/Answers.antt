use Rattle.jc_world.proofs.Common.{◌≡◌, ℕ, true, cond, is_none, entry_in, cached_entry, without_foreign, IsSomeAnd, slice_get, Some, find, option_copied, sym, refl, ap, ◌∙◌, subst, subst₂, get, insert, stripe_of, Caller, MayBegin, TicketClaim, new_part, new_progress, Outcome, WorldEvent, keeps_open, has_number, settle, over_settled, not_over, BeginsAs, fits, world_of, IsSoundWorld, OrderedStripes, IsPhase, join_key, WorldState, open_call, rules}
use Rattle.jc_stripe.specs.Phases.{begun_with, with_reply}
use Rattle.jc_stripe.specs.declared.begun.Started.{Started}
use Rattle.jc_stripe.specs.declared.begun.Started.TheVariants as started
use Rattle.jc_world.proofs.Phased.{start_open, may_begin_at, here, phased_from, shown_as, StartPhase, started_done, started_refused, started_joins, started_ticket, free_key, free_join}
use Rattle.jc_world.proofs.machine.Machine.start.Goals.{In-Some, After-begin}
use Rattle.jc_world.proofs.machine.Machine.start.Goals as goal

-- 1. What is known after a call.

-- the call that was looked up is under way
found : (c : In-Some) → open_call (world_of c.self.inside) c.args.call ≡ Some c.in-Some.u.now
found c = ap (find (has_number c.args.call)) (sym c.deref.ensures.value) ∙ sym c.find_call.ensures ∙ ap option_copied c.in-Some.is

-- what was begun at the stripe of the key
ran : (c : After-begin) → (s : Started) → c.begin.result ≡ s → StartPhase (world_of c.self.inside) c.args.call c.args.key.now c.in-Some.u.now c.op_at_open-op.result.now (begun_with s c.begin.new.reply) c.begin.new.self.stripes c.begin.new.self.order
ran c s is =
    let v : WorldState = world_of c.self.inside in
    let u = c.in-Some.u.now in
    let key = c.args.key.now in
    let op = c.op_at_open-op.result.now in
    let number = c.stripe_of-number.result in
    let same = c.in_ok-reserve.ensures.same in
    let b = begun_with s c.begin.new.reply in
    let P : Caller → Started → Type 0 = λ x s. IsPhase c.reserve.new.self number (BeginsAs x key op (begun_with s c.begin.new.reply)) c.begin.new.self in
    record {
      is = ap (find (has_number c.args.call)) (sym c.deref.ensures.value) ∙ sym c.find_call.ensures ∙ ap option_copied c.in-Some.is;
      op_is = c.op_at_open-op.ensures;
      phase = here v key number (BeginsAs u.caller key op b) _ _ c.stripe_of-number.ensures
          (phased_from v c.reserve.new.self c.begin.new.self number (BeginsAs u.caller key op b) (ap (λ (s : OrderedStripes). s.stripes) same) (ap (λ (s : OrderedStripes). s.order) same) (subst₂ P c.caller-caller.ensures is c.begin.ensures));
    }

-- 2. What the calls require.

pub op_at_open-op-requires : goal.op_at_open-op-requires
op_at_open-op-requires c =
    start_open c.args.self.now c.args.call c.args.key.now c.in-Some.u.now c.requires.fits
    (ap (λ (x : WorldState). open_call x c.args.call) (sym c.self.view_is) ∙ found (goal.at.op_at_open-op-requires c).In-Some)

pub begin-requires-clause-begins : goal.begin-requires-clause-begins
begin-requires-clause-begins c =
    let w = c.args.self.now in
    let u = c.in-Some.u.now in
    let key = c.args.key.now in
    let op = c.op_at_open-op.result.now in
    let is : open_call w c.args.call ≡ Some u = ap (λ (x : WorldState). open_call x c.args.call) (sym c.self.view_is) ∙ found (goal.at.begin-requires-clause-begins c).In-Some in
    let P : WorldState → Type 0 = λ x. IsSomeAnd (slice_get x.stripes (stripe_of key x.config.stripes)) (λ s. MayBegin s u.caller key) in
    let Q : ℕ → OrderedStripes → Caller → Type 0 = λ n v x. IsSomeAnd (slice_get v.stripes n) (λ s. MayBegin s x key) in
    let at = subst P (sym c.self.view_is) (may_begin_at w c.args.call key u op c.requires.fits is c.op_at_open-op.ensures c.requires.sound) in
    subst (Q c.stripe_of-number.result c.reserve.new.self) (sym c.caller-caller.ensures) (subst (λ v. Q c.stripe_of-number.result v u.caller) (sym c.in_ok-reserve.ensures.same) (subst (λ n. Q n c.self.inside.stripes u.caller) (sym c.stripe_of-number.ensures) at))

pub hold-requires : goal.hold-requires
hold-requires c =
    let ticket = c.in-Asks.ticket in
    let p = ran (goal.at.hold-requires c).After-begin (started.Asks ticket) c.in-Asks.is in
    record {
      room = search rules;
      reserves = p.phase.made.3;
      unasked = ap (λ (t : TicketClaim). t.asked) p.phase.made.4;
      writer = ap (λ (t : TicketClaim). t.writer_asked) p.phase.made.4;
      free =
          ap (λ parts. get parts ticket.reservation.key) c.in_ok-make_room.ensures.parts
          ∙ free_key (world_of c.self.inside) c.args.call _ c.args.key.now _ ticket _ _ p (subst IsSoundWorld (sym c.self.view_is) c.requires.sound);
    }

pub put_join-requires-clause-free : goal.put_join-requires-clause-free
put_join-requires-clause-free c =
    let v : WorldState = world_of c.self.inside in
    let join = c.in-Joined.join in
    let p = ran (goal.at.put_join-requires-clause-free c).After-begin (started.Joined join) c.in-Joined.is in
    let F : WorldState → Type 0 = λ w. fits w (WorldEvent.Start c.args.call c.args.key.now) ≡ true in
    ap (λ m. get m (join_key join)) c.in_ok-make_join_room.ensures.joins
    ∙ free_join v c.args.call _ c.args.key.now _ join _ _ p (subst F (sym c.self.view_is) c.requires.fits) (subst IsSoundWorld (sym c.self.view_is) c.requires.sound)

-- 3. What happens.

pub returns-in-Done-clause-ok : goal.returns-in-Done-clause-ok
returns-in-Done-clause-ok c =
    let v : WorldState = world_of c.self.inside in
    let key = c.args.key.now in
    let p = ran (goal.at.returns-in-Done-clause-ok c).After-begin (started.Done c.in-Done.done) c.in-Done.is in
    let met = c.fault_in.result in
    let next = world_of (record c.self.inside { stripes = c.begin.new.self; calls = c.settle-over.new.calls; held = c.make_room.new.held; joins = c.make_join_room.new.joins }) in
    let calls = c.settle-over.ensures.calls ∙ ap (λ (x : Caller). settle x.call key met v.calls) c.caller-caller.ensures in
    shown_as _ v next (WorldEvent.Start c.args.call key) _ _ c.self.view_is c.show_end.ensures
    (started_done v next c.args.call key _ _ (with_reply c.in-Done.done c.begin.new.reply) c.shown_of.result met c.settle-over.result _ _ p c.shown_of.ensures.step (c.shown_of.ensures.stripe ∙ c.stripe_of-number.ensures)
    c.fault_in.ensures (c.settle-over.ensures.over ∙ ap (λ (x : Caller). over_settled x.call key met v.calls) c.caller-caller.ensures)
    (λ i. record v { stripes = c.begin.new.self.stripes; order = c.begin.new.self.order; calls = calls i; parts = c.in_ok-make_room.ensures.parts i; joins = c.in_ok-make_join_room.ensures.joins i }))

pub returns-in-Refused-clause-ok : goal.returns-in-Refused-clause-ok
returns-in-Refused-clause-ok c =
    let v : WorldState = world_of c.self.inside in
    let key = c.args.key.now in
    let refusal = c.in-Refused.refusal in
    let p = ran (goal.at.returns-in-Refused-clause-ok c).After-begin (started.Refused refusal) c.in-Refused.is in
    let next = world_of (record c.self.inside { stripes = c.begin.new.self; calls = c.refuse.new.calls; held = c.make_room.new.held; joins = c.make_join_room.new.joins }) in
    shown_as _ v next (WorldEvent.Start c.args.call key) _ _ c.self.view_is refl
    (started_refused v next c.args.call key _ _ refusal c.refuse.new.seen _ _ c.refuse.new.calls.items p
    (c.refuse.ensures.shown ∙ (λ i. cond (keeps_open (c.kind-kind.ensures i) refusal) (not_over (Outcome.PutOff refusal)) (record { outcome = Outcome.Refused refusal; over = over_settled (c.caller-caller.ensures i).call key (Some refusal) v.calls })))
    (c.refuse.ensures.calls ∙ (λ i. cond (keeps_open (c.kind-kind.ensures i) refusal) v.calls (settle (c.caller-caller.ensures i).call key (Some refusal) v.calls)))
    (λ i. record v { stripes = c.begin.new.self.stripes; order = c.begin.new.self.order; calls = c.refuse.new.calls.items; parts = c.in_ok-make_room.ensures.parts i; joins = c.in_ok-make_join_room.ensures.joins i }))

pub returns-in-Joined-clause-ok : goal.returns-in-Joined-clause-ok
returns-in-Joined-clause-ok c =
    let v : WorldState = world_of c.self.inside in
    let key = c.args.key.now in
    let p = ran (goal.at.returns-in-Joined-clause-ok c).After-begin (started.Joined c.in-Joined.join) c.in-Joined.is in
    let put = c.put_join.ensures ∙ ap (λ m. insert m (join_key c.in-Joined.join) c.in-Joined.join) c.in_ok-make_join_room.ensures.joins in
    let next = world_of (record c.self.inside { stripes = c.begin.new.self; held = c.make_room.new.held; joins = c.put_join.new.joins }) in
    shown_as _ v next (WorldEvent.Start c.args.call key) _ _ c.self.view_is c.show.ensures
    (started_joins v next c.args.call key _ _ c.in-Joined.join _ _ p
    (λ i. record v { stripes = c.begin.new.self.stripes; order = c.begin.new.self.order; joins = put i; parts = c.in_ok-make_room.ensures.parts i }))

pub returns-in-Asks-clause-ok : goal.returns-in-Asks-clause-ok
returns-in-Asks-clause-ok c =
    let v : WorldState = world_of c.self.inside in
    let key = c.args.key.now in
    let ticket = c.in-Asks.ticket in
    let p = ran (goal.at.returns-in-Asks-clause-ok c).After-begin (started.Asks ticket) c.in-Asks.is in
    let next = world_of (record c.self.inside { stripes = c.begin.new.self; held = c.hold.new.held; joins = c.make_join_room.new.joins; foreign = c.forget.new.foreign }) in
    let missing : c.is_missing-is_new.result ≡ is_none (cached_entry v key) =
    c.is_missing-is_new.ensures ∙ (λ i. is_none (entry_in (slice_get (c.in_ok-reserve.ensures.same i).stripes (c.stripe_of-number.ensures i)) key))
    in
    let forgotten = c.forget.ensures ∙ ap (without_foreign v.foreign key) missing in
    let put = c.hold.ensures.parts ∙ ap (λ parts. insert parts ticket.reservation.key (new_part (new_progress ticket.reservation.first) ticket.reservation)) c.in_ok-make_room.ensures.parts in
    shown_as _ v next (WorldEvent.Start c.args.call key) _ _ c.self.view_is refl
    (started_ticket v next c.args.call key _ _ ticket c.hold.new.seen _ _ next.parts p c.hold.ensures.shown put
    (λ i. record v { stripes = c.begin.new.self.stripes; order = c.begin.new.self.order; parts = next.parts; joins = c.in_ok-make_join_room.ensures.joins i; foreign = forgotten i }))
