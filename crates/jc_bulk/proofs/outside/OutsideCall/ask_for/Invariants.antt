use Rattle.jc_bulk.proofs.Common.{◌≡◌, ◌-◌, ◌++◌, map, take, drop, vec_capacity}
use Rattle.jc_bulk.proofs.Tickets.{asked_ticket, asks_of}
use Rattle.jc_bulk.proofs.outside.OutsideCall.ask_for.Given as goal

-- the tickets before this place have asked
abbrev pub invariant-loop-place : goal.invariant-loop-place
invariant-loop-place g l = record {
  tickets : l.tickets.items ≡ map asked_ticket (take l.place l.fn.tickets.items) ++ drop l.place l.fn.tickets.items;
  room : vec_capacity l.tickets ≡ vec_capacity l.fn.tickets;
  call : l.call ≡ record l.fn.self { items = asks_of (take l.place l.fn.tickets.items); room = l.fn.self.room - l.place };
}
