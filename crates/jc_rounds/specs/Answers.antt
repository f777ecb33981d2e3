-- One round of a bulk call, between its first and its last phases: what was answered for each key that it has reserved.
--     asked_key         the key of an ask
--     RunState          a reservation, and the answers of its run
--     key_run           the run, by its key
--     done_of           the done value of the run, in a live cache
--     reservations_of   the reservations of these runs
--     is_change_of      a change is of the kind that a batch asks for: a delete, or a write
--     claim_after       the writer's ask after a run, in a batch of this kind, if there is one; `through` is whether the cache
--                       writes through
--     claims_after      the writer's asks after these runs
--     reports           the writer's reports on these runs, in a batch of this kind
--     IsToBeAnswered    a round asked for the key of a reservation, and asked whoever the reservation asks first
--     AreProcessed      the processor has run for each of these reservations, and the writer has reported where it was asked
--     IsReportedOn      the first of these runs, with the reports on all of them, the first one last
--     TakesReport       the report on the first run, if one is due, and the reports that are left
--     done_room         the number of done values for which there is memory
--     AreAnswers        these are the answers for each of these reservations, as a round gave them for its key
--     CommitsNext       a last phase at the key of a reservation, by the first of the answers: it makes the step of a phase at
--                       that key alone, with the round's answer for the key, and leaves the other answers
use Rattle.std.specs.Prelude.{◌≡◌, ◌∷◌, ℕ, vec_capacity, List, map, reverse, Bool, true, false, not, Option, None, Some}
use Rattle.std.specs.Prelude.{if◌then◌else◌}
use Rattle.std.specs.List.{AllByRecursion, IsAmong, filter_map}
use Rattle.jc_types.specs.declared.config.Config.{Config}
use Rattle.jc_model.specs.Batches.{is_among}
use Rattle.jc_model.specs.Cache.{Bytes}
use Rattle.jc_model.specs.declared.event.Change.{Change}
use Rattle.jc_model.specs.declared.event.Out.{Out}
use Rattle.jc_model.specs.declared.event.Reply.{Reply}
use Rattle.jc_model.specs.declared.event.Change.TheVariants.{Write, Delete}
use Rattle.jc_model.specs.declared.event.LoadAnswer.{LoadAnswer}
use Rattle.jc_model.specs.declared.event.ProcessAnswer.{ProcessAnswer}
use Rattle.jc_model.specs.declared.event.WriteAnswer.{WriteAnswer}
use Rattle.jc_outside.specs.CallingAll.{loads_done, writes_done}
use Rattle.jc_outside.specs.Done.{WriteResult}
use Rattle.jc_outside.specs.declared.done.Origin.TheVariants.{Live}
use Rattle.jc_mutentry.specs.Done.{ProcessResult}
use Rattle.jc_stripe.specs.Effects.{HasReport, report_answer}
use Rattle.jc_stripe.specs.declared.ticket.First.{First}
use Rattle.jc_stripe.specs.declared.ticket.Reservation.{Reservation}
use Rattle.jc_stripe.specs.Tickets.{Claim, asks_loader, asks_processor, asks_writer, claim_of, entry_seen, is_loadable}
use Rattle.jc_stripe.specs.Tickets.{report_claim}
use Rattle.jc_session.specs.declared.counts.Counted.TheVariants.{Committed}
use Rattle.jc_session.specs.declared.session.Session.{Session}
use Rattle.jc_cache.specs.Caches.{CacheState}
use Rattle.jc_rounds.specs.declared.answers.RoundAnswers.{RoundAnswers}
use Rattle.jc_rounds.specs.declared.answers.RoundAnswers.TheVariants as answers
use Rattle.jc_rounds.specs.KeyPhases.{IsKeyPhase}
use Rattle.jc_rounds.specs.Keys.{IsCommitted}
use Rattle.jc_rounds.specs.Rounds.{IsAnswer, KeyRun, LoadAll, ProcessAll, ProcessRound, Round, WriteAll, answer_by, change_of}
use Rattle.jc_rounds.specs.Rounds.{keys_asked}
use Rattle.jc_rounds.specs.Seats.{view_of}

abbrev pub asked_key : Claim → Bytes
asked_key ask = ask.key

-- 1. Runs of a processor.

pub record RunState : Type 0 where
  pub reservation : Reservation
  pub load : LoadAnswer
  pub process : ProcessAnswer

abbrev pub key_run : RunState → KeyRun
key_run run = record {
  key = run.reservation.key;
  entry = entry_seen run.reservation.first;
  may_load = is_loadable run.reservation.first;
  load = run.load;
  process = run.process;
}

abbrev pub done_of : RunState → ProcessResult Claim
done_of run = record { ask = claim_of run.reservation; origin = Live; load = run.load; process = run.process }

abbrev pub reservations_of : List RunState → List Reservation
reservations_of runs = map (λ (r : RunState). r.reservation) runs

abbrev pub is_change_of : Bool → Option Change → Bool
is_change_of deletes None = false
is_change_of deletes (Some (Write value)) = not deletes
is_change_of deletes (Some Delete) = deletes

abbrev pub claim_after : Bool → Bool → RunState → Option Claim
claim_after through deletes run =
    if is_change_of deletes (change_of through (key_run run))
    then Some (report_claim run.reservation (change_of through (key_run run))) else None

abbrev pub claims_after : Bool → Bool → List RunState → List Claim
claims_after through deletes runs = filter_map (claim_after through deletes) runs

abbrev pub reports : Bool → Bool → (Bytes → WriteAnswer) → List RunState → List (WriteResult Claim)
reports through deletes said runs = writes_done asked_key said (claims_after through deletes runs)

-- 2. Answers.

abbrev pub IsToBeAnswered : (First → Bool) → Round → Reservation → Type 0
IsToBeAnswered asks round r = (asks r.first ≡ true) × (is_among (keys_asked round) r.key ≡ true)

pub record AreProcessed (through : Bool) (round : ProcessRound) (done : List (ProcessResult Claim))
    (written deleted : List (WriteResult Claim)) (calls : List Reservation) : Type 0 where
  pub runs : List RunState
  pub calls_are : calls ≡ reservations_of runs
  pub done_are : done ≡ map done_of runs
  pub written_are : written ≡ reports through false round.written runs
  pub deleted_are : deleted ≡ reports through true round.deleted runs
  pub each : AllByRecursion (λ (run : RunState). IsAmong round.runs (key_run run)) runs

-- the reports stand in the other order
pub record IsReportedOn (through : Bool) (round : ProcessRound) (run : RunState) (runs : List RunState) (done : ProcessResult Claim)
    (written deleted : List (WriteResult Claim)) : Type 0 where
  pub done_is : done ≡ done_of run
  pub written_are : reverse written ≡ reports through false round.written (run ∷ runs)
  pub deleted_are : reverse deleted ≡ reports through true round.deleted (run ∷ runs)

pub record TakesReport (through : Bool) (round : ProcessRound) (run : RunState) (runs : List RunState)
    (report : Option (WriteResult Claim)) (written deleted : List (WriteResult Claim)) : Type 0 where
  pub due : HasReport Live run.reservation (change_of through (key_run run)) report
  pub answer : report_answer report
      ≡ answer_by (change_of through (key_run run)) (round.written run.reservation.key) (round.deleted run.reservation.key)
  pub written_are : reverse written ≡ reports through false round.written runs
  pub deleted_are : reverse deleted ≡ reports through true round.deleted runs

abbrev pub done_room : RoundAnswers → ℕ
done_room (answers.Loads done) = vec_capacity done
done_room (answers.Writes done) = vec_capacity done
done_room (answers.Processes done written deleted) = vec_capacity done

abbrev pub AreAnswers : Config → Round → RoundAnswers → List Reservation → Type 0
AreAnswers config (LoadAll r) (answers.Loads done) calls =
    (reverse done.items ≡ loads_done asked_key r.said (map claim_of calls))
    × AllByRecursion (IsToBeAnswered asks_loader (LoadAll r)) calls
AreAnswers config (WriteAll r) (answers.Writes done) calls =
    (reverse done.items ≡ writes_done asked_key r.said (map claim_of calls))
    × AllByRecursion (IsToBeAnswered asks_writer (WriteAll r)) calls
AreAnswers config (ProcessAll r) (answers.Processes done written deleted) calls =
    AreProcessed config.write_through r (reverse done.items) (reverse written.items) (reverse deleted.items) calls
    × AllByRecursion (IsToBeAnswered asks_processor (ProcessAll r)) calls
AreAnswers config (LoadAll r) (answers.Writes done) calls = ⊥
AreAnswers config (LoadAll r) (answers.Processes done written deleted) calls = ⊥
AreAnswers config (WriteAll r) (answers.Loads done) calls = ⊥
AreAnswers config (WriteAll r) (answers.Processes done written deleted) calls = ⊥
AreAnswers config (ProcessAll r) (answers.Loads done) calls = ⊥
AreAnswers config (ProcessAll r) (answers.Writes done) calls = ⊥

-- 3. The next of them.

module _ {I J : Type 0} {D : I → Type 0} {E : J → Type 0} (cache : CacheState) (old : Session I J D E) (r : Reservation) where
  abbrev pub CommitsNext : RoundAnswers → Session I J D E → RoundAnswers → Reply → Type 0
  CommitsNext answers new left reply = (round : Round) (rest : List Reservation) → AreAnswers cache.config round answers (r ∷ rest)
      → AreAnswers cache.config round left rest
      × IsKeyPhase cache old r.key Committed new ((out : Out) × IsAnswer cache.config round r.key r.first out
      × IsCommitted cache.config old.agent.caller r out (view_of cache.config.stripes old.seats.items r.key)
      (view_of cache.config.stripes new.seats.items r.key) reply)
