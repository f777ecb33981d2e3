-- How a world keeps the keys that its calls have reserved: a map by key, of tickets with what was done and answered; and its joins:
-- a map by call and key. No contract of a public function cites this.
--     HasPlayedRun   either the ticket was not asked, and no processor has run; or its own processor's played run is there
--     IsAnswerable   the progress of a ticket is that of one whom it asks first, with the run of its processor
--     parts_of       by key, what was asked and answered: the map that an index map means
--     joins_of       by call and key, the joins: the same of the joins
use Rattle.std.specs.Prelude.{◌≡◌, true, false, Option, None, Some}
use Rattle.std.specs.FinMap.{from_entries}
use Rattle.indexmap.specs.IndexMap.{IndexMap}
use Rattle.jc_model.specs.Cache.{Bytes}
use Rattle.jc_outside.specs.declared.done.Origin.TheVariants.{Played}
use Rattle.jc_model.specs.declared.event.Out.{Out}
use Rattle.jc_model.specs.Table.{is_process_given}
use Rattle.jc_mutentry.specs.Done.{ProcessResult}
use Rattle.jc_stripe.specs.Tickets.{TicketClaim, Claim, claim_of, JoinClaim, asks_processor}
use Rattle.jc_world.specs.declared.event.PartProgress.{PartProgress}
use Rattle.jc_world.specs.declared.event.Part.{Part}
use Rattle.jc_world.specs.World.{Parts, JoinKey, Joins}
use Rattle.jc_world.specs.Sound.{FitsAsked}

-- 1. Tickets and their answers.

abbrev pub HasPlayedRun : TicketClaim → Option (ProcessResult Claim) → Out → Type 0
HasPlayedRun ticket None out = (ticket.asked ≡ false) × (is_process_given out.process ≡ false)
HasPlayedRun ticket (Some done) out =
    (ticket.asked ≡ true) × (asks_processor ticket.reservation.first ≡ true)
    × (done.ask ≡ claim_of ticket.reservation) × (done.origin ≡ Played)
    × (done.load ≡ out.load) × (done.process ≡ out.process) × (is_process_given out.process ≡ true)

pub record IsAnswerable (ticket : TicketClaim) (run : Option (ProcessResult Claim))
    (progress : PartProgress) : Type 0 where
  pub of_asked : FitsAsked ticket.reservation.first progress
  pub writer : ticket.writer_asked ≡ false
  pub run_is : HasPlayedRun ticket run progress.out

-- 2. By key.

abbrev pub parts_of : {S : Type 0} → IndexMap Bytes Part S → Parts
parts_of m = from_entries m.entries

-- 3. By call and key.

abbrev pub joins_of : {S : Type 0} → IndexMap JoinKey JoinClaim S → Joins
joins_of m = from_entries m.entries
