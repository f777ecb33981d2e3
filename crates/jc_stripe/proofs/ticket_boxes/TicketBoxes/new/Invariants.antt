use Rattle.std.proofs.Common.{◌≡◌, ◌≤◌, length, vec_capacity}
use Rattle.jc_types.specs.declared.limits.TheConstants.{RESERVATIONS_MAX}
use Rattle.jc_stripe.proofs.ticket_boxes.TicketBoxes.new.Given as goal

abbrev pub invariant-loop : goal.invariant-loop
invariant-loop l = (length l.free.items ≡ l.counter) × (RESERVATIONS_MAX ≤ vec_capacity l.free)
