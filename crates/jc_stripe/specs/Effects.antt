-- The outside answers of a call that runs a processor, and when the writer's report is one of them.
--     change_due       the change that the writer is asked for after a processor: with write-through on the processor's net
--                      effect on the store, and nothing after a loader's or processor's fault
--     HasReport        the writer's report is there exactly if a change is due, and then it was made for this reservation and
--                      this change, and has the stripe's origin
--     report_answer    the writer's answer, or that it wasn't asked
--     process_out      the outside answers of a processor's step
use Rattle.std.specs.Prelude.{◌≡◌, Option, None, Some, if◌then◌else◌}
use Rattle.jc_types.specs.declared.config.Config.{Config}
use Rattle.jc_model.specs.declared.event.Change.{Change}
use Rattle.jc_model.specs.declared.event.Out.{Out}
use Rattle.jc_model.specs.declared.event.WriteAnswer.{WriteAnswer}
use Rattle.jc_model.specs.declared.event.WriteAnswer.TheVariants.{NotAsked}
use Rattle.jc_outside.specs.declared.done.Origin.{Origin}
use Rattle.jc_outside.specs.Done.{WriteResult}
use Rattle.jc_mutentry.specs.Done.{ProcessResult}
use Rattle.jc_mutentry.specs.Done as processed
use Rattle.jc_stripe.specs.declared.ticket.Reservation.{Reservation}
use Rattle.jc_stripe.specs.Tickets.{Claim, report_claim}

abbrev pub change_due : Config → ProcessResult Claim → Option Change
change_due config done = if config.write_through then processed.effect_change done.load done.process else None

abbrev pub HasReport : Origin → Reservation → Option Change → Option (WriteResult Claim) → Type 0
HasReport origin r None None = Unit {0}
HasReport origin r None (Some report) = ⊥
HasReport origin r (Some change) None = ⊥
HasReport origin r (Some change) (Some report) = (report.ask ≡ report_claim r (Some change)) × (report.origin ≡ origin)

abbrev pub report_answer : Option (WriteResult Claim) → WriteAnswer
report_answer None = NotAsked
report_answer (Some report) = report.answer

abbrev pub process_out : ProcessResult Claim → Option (WriteResult Claim) → Out
process_out done report = record { load = done.load; write = report_answer report; process = done.process }
