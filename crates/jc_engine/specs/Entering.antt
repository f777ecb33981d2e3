-- A call up to the point at which it is done, refused, or needs an outside answer.
--     EntersBy          its lendings up to there, by what is returned: None if the call is done, with this reply; a ticket if it
--                       has reserved its key; a refusal if nothing was done
--     counts_entered    the counts at that point: one step more, one reservation more, or unchanged
--     ended_with        the reply, which is returned apart, or the refusal
use Rattle.std.specs.Prelude.{List, Option, None, Some, Result, Ok, Err}
use Rattle.jc_types.specs.declared.caller.Caller.{Caller}
use Rattle.jc_types.specs.declared.refusal.Refusal.{Refusal}
use Rattle.jc_model.specs.Cache.{Bytes}
use Rattle.jc_model.specs.Group.{nothing_said}
use Rattle.jc_model.specs.declared.event.Op.{Op}
use Rattle.jc_model.specs.declared.event.Reply.{Reply}
use Rattle.jc_stripe.specs.State.{State}
use Rattle.jc_stripe.specs.Tickets.{TicketClaim}
use Rattle.jc_stripe.specs.Outcomes.{Asks}
use Rattle.jc_session.specs.Counting.{one_more}
use Rattle.jc_session.specs.declared.counts.Counts.{Counts}
use Rattle.jc_engine.specs.Turns.{IsBegunRow, IsCallRow}

abbrev pub EntersBy : Caller → Bytes → Op → Result (Option TicketClaim) Refusal → Reply → List (State × State) → Type 0
EntersBy caller key op (Ok None) reply row = IsCallRow caller key op nothing_said (Ok reply) row
EntersBy caller key op (Ok (Some ticket)) reply row = IsBegunRow caller key op (Asks ticket) row
EntersBy caller key op (Err refusal) reply row = IsCallRow caller key op nothing_said (Err refusal) row

abbrev pub counts_entered : Counts → Result (Option TicketClaim) Refusal → Counts
counts_entered counts (Ok None) = record counts { own = one_more counts.own }
counts_entered counts (Ok (Some ticket)) = record counts { reservations = one_more counts.reservations }
counts_entered counts (Err refusal) = counts

abbrev pub ended_with : Result (Unit {0}) Refusal → Reply → Result Reply Refusal
ended_with (Ok done) reply = Ok reply
ended_with (Err refusal) reply = Err refusal
