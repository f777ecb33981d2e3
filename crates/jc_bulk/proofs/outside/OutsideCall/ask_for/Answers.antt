use Rattle.jc_bulk.proofs.Common.{items_in, outside_kind, room_in, with_ask, is_among, asked_keys, Loads, ◌≡◌, ◌<◌, ◌+◌, ◌-◌, ◌++◌, ◌∷◌, [], length, take, get_or, slice_set, sym, ap, ◌∙◌, arith, length-map}
use Rattle.jc_bulk.proofs.Tickets.{answered_loads, answered_writes, loads_rest, ask_of, asked_ticket, asks_next, asks_of, new_next, next_ticket, tickets_next, whole_asks, whole_tickets}
use Rattle.jc_bulk.proofs.outside.OutsideCall.ask_for.Goals as goal

pub push-requires-clause-new : goal.push-requires-clause-new
push-requires-clause-new g c =
    let ts = c.args.tickets.now.items in
    let i = c.loop-place.place in
    let d = c.index_mut.result.now in
    let here : d ≡ get_or ts i d = c.index_mut.ensures.value ∙ ap (λ xs. get_or xs i d) c.loop-place.invariant.tickets ∙ next_ticket ts i d in
    ap (λ s. is_among (asked_keys s.items) c.ask.result.key) c.loop-place.invariant.call
    ∙ ap (is_among (asked_keys (asks_of (take i ts)))) (ap (λ a. a.key) c.ask.ensures.ask ∙ ap (λ t. t.reservation.key) here)
    ∙ new_next ts i d (omega (arith, c.loop-place-test.true, c.len-place-end.ensures, c.args.tickets.now.ok.0)) c.requires.may.distinct

pub loop-place-preserved : goal.loop-place-preserved
loop-place-preserved g c =
    let ts = c.args.tickets.now.items in
    let i = c.loop-place.place in
    let d = c.index_mut.result.now in
    let room = c.args.self.room in
    let near : i < length ts = omega (arith, c.loop-place-test.true, c.len-place-end.ensures, c.args.tickets.now.ok.0) in
    let here : d ≡ get_or ts i d = c.index_mut.ensures.value ∙ ap (λ xs. get_or xs i d) c.loop-place.invariant.tickets ∙ next_ticket ts i d in
    let fewer : room - i - 1 ≡ room - (i + 1) = omega arith in
    let asks : asks_of (take i ts) ++ c.ask.result ∷ [] ≡ asks_of (take (i + 1) ts) = ap (λ a. asks_of (take i ts) ++ a ∷ []) (c.ask.ensures.ask ∙ ap ask_of here) ∙ asks_next ts i d near in
    record {
      tickets = ap (λ xs. slice_set xs i c.ask.new.self) c.loop-place.invariant.tickets ∙ ap (slice_set _ i) (c.ask.ensures.asked ∙ ap asked_ticket here) ∙ tickets_next ts i d near;
      room = c.loop-place.invariant.room;
      call = c.push.ensures ∙ ap (λ s. with_ask s c.ask.result) c.loop-place.invariant.call ∙ (λ j. record c.args.self { items = asks j; room = fewer j });
    }

pub returns-in-Loads-clause-tickets : goal.returns-in-Loads-clause-tickets
returns-in-Loads-clause-tickets g c = record {
  reservations = whole_tickets c.args.tickets.now.items c.loop-place.place c.loop-place.tickets.items (omega (arith, c.loop-place-test.false, c.len-place-end.ensures, c.args.tickets.now.ok.0)) c.loop-place.invariant.tickets;
  room = c.loop-place.invariant.room;
}

pub returns-in-Loads-clause-asked : goal.returns-in-Loads-clause-asked
returns-in-Loads-clause-asked g c =
    let e = c.ask-loaded.ensures.asked in
    let is = c.call.view_is ∙ c.loop-place.invariant.call in
    let ts = c.args.tickets.now.items in
    let kind = sym (ap (λ s. s.kind) is) ∙ ap outside_kind c.in-Loads.is in
    let asks = whole_asks ts c.loop-place.place c.in-Loads.call.items (omega (arith, c.loop-place-test.false, c.len-place-end.ensures, c.args.tickets.now.ok.0)) (sym (ap items_in c.in-Loads.is) ∙ ap (λ s. s.items) is) in
    let room : c.in-Loads.call.room ≡ c.args.self.room - c.loop-place.place = sym (ap room_in c.in-Loads.is) ∙ ap (λ s. s.room) is in
    let many : length c.in-Loads.call.items ≡ length ts = ap length asks ∙ length-map ts ask_of in
    let left = loads_rest c.args.self.kind c.args.self.room _ (Loads c.ask-loaded.result.0) c.ask-loaded.result.1 kind
    (omega (arith, room, many, c.requires.may.room, c.loop-place-test.false, c.loop-place.auto.place-end, c.len-place-end.ensures, c.args.tickets.now.ok.0)) c.ask-loaded.ensures.spent c.ask-loaded.ensures.room in
    record {
      asked = answered_loads _ c.args.session.now c.ask-loaded.new.session c.args.self.kind c.args.self.room ts c.in-Loads.call.items c.ask-loaded.result.0 c.ask-loaded.result.1 kind asks c.requires.may.kind e.asked left;
      rest = e.rest;
      own = e.own;
    }

pub returns-in-Writes-clause-tickets : goal.returns-in-Writes-clause-tickets
returns-in-Writes-clause-tickets g c = record {
  reservations = whole_tickets c.args.tickets.now.items c.loop-place.place c.loop-place.tickets.items (omega (arith, c.loop-place-test.false, c.len-place-end.ensures, c.args.tickets.now.ok.0)) c.loop-place.invariant.tickets;
  room = c.loop-place.invariant.room;
}

pub returns-in-Writes-clause-asked : goal.returns-in-Writes-clause-asked
returns-in-Writes-clause-asked g c =
    let e = c.ask-done.ensures in
    let is = c.call.view_is ∙ c.loop-place.invariant.call in
    let asks = whole_asks c.args.tickets.now.items c.loop-place.place c.in-Writes.call.items (omega (arith, c.loop-place-test.false, c.len-place-end.ensures, c.args.tickets.now.ok.0)) (sym (ap items_in c.in-Writes.is) ∙ ap (λ s. s.items) is) in
    record {
      asked = answered_writes _ c.args.session.now c.ask-done.new.session c.in-Writes.call.deletes c.args.self.kind c.args.self.room c.args.tickets.now.items c.in-Writes.call.items c.ask-done.result.1 c.ask-done.result.0 c.writer_fault.result (sym (ap (λ s. s.kind) is) ∙ ap outside_kind c.in-Writes.is) asks c.requires.may.some
          c.requires.may.kind c.writer_fault.ensures e.asked;
      rest = e.rest;
      own = e.own;
    }
