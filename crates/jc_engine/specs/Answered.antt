-- What a call was answered outside (by its loader, its writer, its processor), between its first and its last phase.
--     CallAnswer      the answer of the loader or the writer; or what the processor did, and the writer's report on it, if the
--                     writer was asked
--     out_of          the answer, as the outside answers of its step
--     IsAnswered      whoever the ticket's reservation asks first has answered its ask
use Rattle.std.specs.Prelude.{◌≡◌, true, Option}
use Rattle.jc_model.specs.declared.event.Out.{Out}
use Rattle.jc_model.specs.Group.{load_only, write_only}
use Rattle.jc_outside.specs.declared.done.Origin.TheVariants.{Live}
use Rattle.jc_outside.specs.Done.{LoadResult, WriteResult}
use Rattle.jc_mutentry.specs.Done.{ProcessResult}
use Rattle.jc_stripe.specs.Effects.{process_out}
use Rattle.jc_stripe.specs.Tickets.{Claim, TicketClaim, claim_of, asks_loader, asks_writer, asks_processor}

pub data CallAnswer : Type 0 where
  Loaded : (done : LoadResult Claim) → CallAnswer
  Written : (done : WriteResult Claim) → CallAnswer
  Processed : (done : ProcessResult Claim) (report : Option (WriteResult Claim)) → CallAnswer

abbrev pub out_of : CallAnswer → Out
out_of (Loaded done) = load_only done.answer
out_of (Written done) = write_only done.answer
out_of (Processed done report) = process_out done report

abbrev pub IsAnswered : TicketClaim → CallAnswer → Type 0
IsAnswered ticket (Loaded done) =
    (asks_loader ticket.reservation.first ≡ true) × (done.ask ≡ claim_of ticket.reservation) × (done.origin ≡ Live)
IsAnswered ticket (Written done) =
    (asks_writer ticket.reservation.first ≡ true) × (done.ask ≡ claim_of ticket.reservation) × (done.origin ≡ Live)
IsAnswered ticket (Processed done report) =
    (asks_processor ticket.reservation.first ≡ true) × (done.ask ≡ claim_of ticket.reservation) × (done.origin ≡ Live)
