-- Which answers a desk takes are those of whom its ticket asks first.
--     takes_load_answers, takes_write_answers, takes_process_answers    so it is of a loader, a writer, a processor
use Rattle.std.proofs.Common.{◌≡◌, ◌&&◌, ℕ, Bool, true, false, cond, Option, None, Some, is_some, is_none, refl, sym, ◌∙◌}
use Rattle.std.proofs.lemmas.Bool.{and_parts}
use Rattle.std.specs.Bool.{beq}
use Rattle.jc_types.specs.declared.config.Config.{Config}
use Rattle.jc_model.specs.declared.event.Change.{Change}
use Rattle.jc_model.specs.declared.event.Out.{Out}
use Rattle.jc_model.specs.declared.event.LoadAnswer.{LoadAnswer}
use Rattle.jc_model.specs.declared.event.WriteAnswer.{WriteAnswer}
use Rattle.jc_model.specs.Group.{load_only, write_only}
use Rattle.jc_model.specs.Table.{is_load_given, is_write_given, is_process_given, load_fits, wanted_if, early_fault, process_ask}
use Rattle.jc_stripe.specs.State.{State}
use Rattle.jc_stripe.specs.declared.ticket.First.{First}
use Rattle.jc_stripe.specs.declared.ticket.First.TheVariants.{Nobody, Loader, Writer, Processor}
use Rattle.jc_stripe.specs.declared.ticket.Reservation.{Reservation}
use Rattle.jc_stripe.specs.Tickets.{asks_loader, asks_writer}
use Rattle.jc_stripe.specs.Appending.{AnswersFirst, is_write_due}
use Rattle.jc_stripe.specs.DeskPhases.{AnswersTicket, ticket_of, asks_first, takes_load, takes_write, takes_process, fits_processor, wants_writer}

load_first : (config : Config) (first : First) (answer : LoadAnswer) → asks_loader first ≡ true → is_load_given answer ≡ true → AnswersFirst config first (load_only answer)
load_first config Nobody answer h given = cc
load_first config Loader answer h given = (answer, refl, given)
load_first config (Writer change) answer h given = cc
load_first config (Processor entry loads) answer h given = cc

load_ticket : (config : Config) (o : Option Reservation) (answer : LoadAnswer) → (is_load_given answer && asks_first asks_loader o) ≡ true
    → (r : Reservation) × (o ≡ Some r) × AnswersFirst config r.first (load_only answer)
load_ticket config None answer h = let no = and_parts (is_load_given answer) false h in cc
load_ticket config (Some r) answer h =
    let parts = and_parts (is_load_given answer) (asks_loader r.first) h in
    (r, refl, load_first config r.first answer parts.1 parts.0)

pub takes_load_answers : (state : State) (number : ℕ) (answer : LoadAnswer) → takes_load state number answer ≡ true → AnswersTicket state number (load_only answer)
takes_load_answers state number answer h = load_ticket state.config (ticket_of state number) answer h

write_first : (config : Config) (first : First) (answer : WriteAnswer) → asks_writer first ≡ true → is_write_given answer ≡ true → AnswersFirst config first (write_only answer)
write_first config Nobody answer h given = cc
write_first config Loader answer h given = cc
write_first config (Writer change) answer h given = (answer, refl, given)
write_first config (Processor entry loads) answer h given = cc

write_ticket : (config : Config) (o : Option Reservation) (answer : WriteAnswer) → (is_write_given answer && asks_first asks_writer o) ≡ true
    → (r : Reservation) × (o ≡ Some r) × AnswersFirst config r.first (write_only answer)
write_ticket config None answer h = let no = and_parts (is_write_given answer) false h in cc
write_ticket config (Some r) answer h =
    let parts = and_parts (is_write_given answer) (asks_writer r.first) h in
    (r, refl, write_first config r.first answer parts.1 parts.0)

pub takes_write_answers : (state : State) (number : ℕ) (answer : WriteAnswer) → takes_write state number answer ≡ true → AnswersTicket state number (write_only answer)
takes_write_answers state number answer h = write_ticket state.config (ticket_of state number) answer h

beq_same : (a b : Bool) → beq a b ≡ true → a ≡ b
beq_same true true h = refl
beq_same true false h = cc
beq_same false true h = cc
beq_same false false h = refl

-- a change is due if no fault comes before it
due : (on clean : Bool) (change : Option Change) → (on && is_some (cond clean change None)) ≡ ((on && clean) && is_some change)
due true true change = refl
due true false change = refl
due false clean change = refl

process_first : (config : Config) (first : First) (out : Out) → fits_processor out.load out.process first ≡ true → is_write_given out.write ≡ is_write_due config out → AnswersFirst config first out
process_first config Nobody out h write = cc
process_first config Loader out h write = cc
process_first config (Writer change) out h write = cc
process_first config (Processor entry loads) out h write =
    let parts = and_parts (is_process_given out.process) (load_fits (wanted_if loads) (is_load_given out.load)) h in
    record { process = parts.0; load = parts.1; write = write }

process_ticket : (config : Config) (o : Option Reservation) (out : Out) → asks_first (fits_processor out.load out.process) o ≡ true → is_write_given out.write ≡ is_write_due config out
    → (r : Reservation) × (o ≡ Some r) × AnswersFirst config r.first out
process_ticket config None out h write = cc
process_ticket config (Some r) out h write = (r, refl, process_first config r.first out h write)

pub takes_process_answers : (state : State) (number : ℕ) (out : Out) → takes_process state number out ≡ true → AnswersTicket state number out
takes_process_answers state number out h =
    let parts = and_parts (asks_first (fits_processor out.load out.process) (ticket_of state number)) (beq (wants_writer state.config out.load out.process) (is_write_given out.write)) h in
    process_ticket state.config (ticket_of state number) out parts.0
    (sym (beq_same (wants_writer state.config out.load out.process) (is_write_given out.write) parts.1)
    ∙ due state.config.write_through (is_none (early_fault out)) (process_ask out.process))
