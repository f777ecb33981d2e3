-- The world as a machine: what an event that fits shows, and what it leaves.
--     with_stripe                 the world with a key's stripe at another state
--     with_phase                  the same, and what the stripe appended to its history is at the end of the order
--     step_of                     what is shown of a step, but for its stripe
--     not_over                    what is shown of an event with which no call of many keys is over: its outcome alone
--     with_call                   the world once a call has begun: it is under way, unless it is over at once
--     shown_begun                 what the beginning of a call shows: it is refused whole, or it has begun, and is over if it has
--                                 no keys
--     fault_in                    the fault that a reply is, if it is one
--     with_settled                the world in which a key of a call has its reply or last refusal, and the call has met this by
--                                 it: without the call if it is over with that
--     over_by                     that a call of many keys is over with an outcome at a key, if that settles its last open one: a
--                                 step's or a joined load's reply, or a refusal that isn't put off. The call has met it if it is a
--                                 fault or refusal
--     with_met_by                 the world in which a call has met this
--     without_call                the world without a call that leaves
--     with_look                   the world in which a call has looked at a stripe, and taken these keys
--     new_progress                the progress of a key that was just reserved, by whom its reservation asks first
--     asks_as                     what is shown of a key that was just reserved
--     new_part                    what is kept of a key that was just reserved
--     with_part, without_part     the world with this part of a key, and with none
--     with_new_part            the world in which a call has reserved its key. If it has no entry, no write of others counts any
--                              longer
--     foreign_committed           the foreign keys, once one is committed: it is one if somebody has lied about it, and none if its
--                                 commit leaves what the store holds, or nothing
--     with_commit                 the world once a key is committed
--     with_join, without_join     the world with one join more, and without a call's join of a key
--     BeginsAs                    the first phase of a call, by what it returns
--     ReservesAs                  a first phase that reserves its key, with what is shown of it
--     StartsAs                    a first phase, by what is shown of it
--     RefusesAs                   a refusal is shown as one that a call of a kind is to try again, or as its last for the key
--     EndsAs                      a last phase, by what is shown of it
--     Picks                       a pick-up, by what is shown of it
--     with_progress               the world with another progress of a reserved key
--     with_heard                  the progress once whoever was asked has answered, honestly or not
--     with_loaded, with_change, with_report
--                                 the progress once the loader has answered, once the writer has changed the store, and once it has
--                                 returned
--     after_answer                the world once the loader has answered
--     after_change                the world once the writer has changed the store: no write of others from before counts any longer
--     after_report                the world once the writer has returned for a key
--     reported_part, reported_in, reported_key
--                                 what a return of the writer shows of a key, if the writer is asked for it now
--     reported_keys               the same of the keys of a call, in their order
--     reported_now                the same of the keys for which a call under way has the writer asked now
--     keys_reported               the keys for which a writer returns
--     reported_at                 the world once the writer has returned for a key, if it was asked for it and hadn't returned
--     after_reports               the world once the writer has returned for these keys of a call, for each with its answer
--     run_answers                 what the calls of a played processor are answered on the entry of a reservation
--     run_result                  what such a processor does there, and what its loader answers
--     progress_after              the progress once the processor has run, by what the writer is then asked for
--     after_process               the world once the processor has run
--     shown_process               what a processor's run shows
--     eviction_place              where the stripe evicted an invalidated key, if its history is longer by that
--     invalidated_as              what is shown of an invalidation: a reserved key is marked, and any other one's entry evicted, if
--                                 there is one
--     Happens                     what an event that fits may show and leave. A call of many keys is over with the event after
--                                 which none of its keys is open and no look is left; a call that leaves, or is refused whole, is
--                                 given up instead
use Rattle.std.specs.Prelude.{◌≡◌, ℕ, List, [], ◌∷◌, ◌++◌, length, drop, Bool, true, false, not, ◌||◌, Option, None, Some, is_none}
use Rattle.std.specs.Prelude.{nat_lt, map, option_map, slice_get, slice_set, if◌then◌else◌}
use Rattle.std.specs.List.{filter_map}
use Rattle.std.specs.FinMap.{get, insert, remove}
use Rattle.jc_types.specs.declared.caller.Caller.{Caller}
use Rattle.jc_types.specs.declared.refusal.Refusal.{Refusal}
use Rattle.jc_types.specs.declared.refusal.Refusal.TheVariants.{TooManyKeys, WriterFailed}
use Rattle.jc_model.specs.declared.event.Op.{Op}
use Rattle.jc_model.specs.declared.event.Change.{Change}
use Rattle.jc_model.specs.declared.event.Reply.{Reply}
use Rattle.jc_model.specs.declared.event.Reply.TheVariants as reply
use Rattle.jc_model.specs.declared.processor.EntryCall.{EntryCall}
use Rattle.jc_model.specs.declared.processor.EntryAnswer.{EntryAnswer}
use Rattle.jc_model.specs.declared.event.LoadAnswer.{LoadAnswer}
use Rattle.jc_model.specs.declared.event.WriteAnswer.{WriteAnswer}
use Rattle.jc_model.specs.declared.event.WriteAnswer.TheVariants as write
use Rattle.jc_model.specs.Group.{nothing_said}
use Rattle.jc_model.specs.Cache.{Bytes, Cache, entry_at, with_entry}
use Rattle.jc_types.specs.declared.config.Config.{Config}
use Rattle.jc_outside.specs.declared.done.Origin.TheVariants.{Played}
use Rattle.jc_mutentry.specs.Done.{ProcessResult}
use Rattle.jc_mutentry.specs.Playing.{played_answers, played_load, played_outcome}
use Rattle.jc_stripe.specs.Effects.{change_due}
use Rattle.jc_stripe.specs.Outcomes.{StepDone, Begun}
use Rattle.jc_stripe.specs.Outcomes as begun
use Rattle.jc_stripe.specs.declared.ticket.First.{First}
use Rattle.jc_stripe.specs.declared.ticket.First.TheVariants.{Nobody, Loader, Writer, Processor}
use Rattle.jc_stripe.specs.declared.ticket.Reservation.{Reservation}
use Rattle.jc_stripe.specs.Polled as polled
use Rattle.jc_stripe.specs.Tickets.{TicketClaim, Claim, claim_of, change_asked, JoinClaim, entry_seen, is_loadable}
use Rattle.jc_stripe.specs.State.{State, is_reserved}
use Rattle.jc_stripe.specs.Keys.{AreKeys}
use Rattle.jc_stripe.specs.Phases.{Begins, PicksUp}
use Rattle.jc_stripe.specs.Invalidating.{Ends, GivesBack, Invalidates}
use Rattle.jc_world.specs.declared.command.CallKind.{CallKind}
use Rattle.jc_world.specs.declared.event.WorldEvent.{WorldEvent}
use Rattle.jc_world.specs.declared.event.WorldEvent.TheVariants as event
use Rattle.jc_world.specs.declared.event.Outcome.{Outcome}
use Rattle.jc_world.specs.declared.event.Outcome.TheVariants as outcome
use Rattle.jc_world.specs.declared.event.Over.{Over}
use Rattle.jc_world.specs.declared.event.EvictionPlace.{EvictionPlace}
use Rattle.jc_world.specs.declared.event.Shown.{Shown}
use Rattle.jc_world.specs.declared.event.Stepped.{Stepped}
use Rattle.jc_world.specs.declared.reports.ReportedKey.{ReportedKey}
use Rattle.jc_world.specs.declared.reports.WriterBatch.{WriterBatch}
use Rattle.jc_world.specs.Calls.{CallState, SweepState, open_keys, keeps_open, op_at, new_call, has_too_many_keys, opened, over_of}
use Rattle.jc_world.specs.Calls.{settle, over_settled, meet, drop_call, with_swept_keys, look}
use Rattle.jc_world.specs.declared.event.Part.{Part}
use Rattle.jc_world.specs.declared.event.PartProgress.{PartProgress}
use Rattle.jc_world.specs.World.{WorldState, home, stripe_for, open_call, of_call, cached_entry, part_of, Parts, waits_for_report}
use Rattle.jc_world.specs.World.{has_changed, is_misled, join_of, join_key, out_of_part, writer_change, with_foreign}
use Rattle.jc_world.specs.World.{without_foreign, with_doubt}
use Rattle.jc_world.specs.Premises.{is_agreed, read_answer, changed_to, report_for, is_true_load, is_true_report, with_loader}
use Rattle.jc_world.specs.Premises.{with_writer, load_from}
use Rattle.jc_world.specs.declared.process.ShownRun.{ShownRun as ProcessShown}
use Rattle.jc_world.specs.Fits.{is_in_batch, writer_batch}
use Rattle.jc_world.specs.Reopening.{keys_dropped, after_reopening}

-- 1. What a phase leaves.

-- a stripe is at another state
abbrev pub with_stripe : WorldState → Bytes → State → WorldState
with_stripe w key to = record w { stripes = slice_set w.stripes (home w key) to }

-- the same, and what it appended to its history is at the end of the order
abbrev pub with_phase : WorldState → Bytes → State → State → WorldState
with_phase w key from to =
    record w {
      stripes = slice_set w.stripes (home w key) to;
      order = w.order ++ drop (length from.history) to.history;
    }

-- what is shown of a step, but for its stripe: its reply, its place, and the evictions that were made with it
abbrev pub step_of : Stepped → StepDone
step_of seen =
    record { reply = seen.reply; place = seen.place; victim = seen.victim; evicted = seen.evicted }

abbrev pub with_call : WorldState → CallState → WorldState
with_call w u = record w { last = Some u.caller.call; calls = w.calls ++ opened u; is_fresh = false }

abbrev pub not_over : Outcome → Shown
not_over o = record { outcome = o; over = None }

abbrev pub shown_begun : CallState → Shown
shown_begun u =
    if has_too_many_keys u then not_over (outcome.Refused TooManyKeys)
    else record { outcome = outcome.Begun; over = over_of u }

abbrev pub fault_in : Reply → Option Refusal
fault_in reply.Unit = None
fault_in (reply.Flag flag) = None
fault_in (reply.Value value) = None
fault_in (reply.Fault fault) = Some fault

-- a key of a call has its reply or last refusal
abbrev pub with_settled : WorldState → ℕ → Bytes → Option Refusal → WorldState
with_settled w call key met = record w { calls = settle call key met w.calls }

-- any other outcome settles no key
abbrev pub over_by : WorldState → ℕ → Bytes → Outcome → Option Over
over_by w call key (outcome.Stepped x) = over_settled call key (fault_in x.reply) w.calls
over_by w call key (outcome.PickedUp x) = over_settled call key (fault_in x.reply) w.calls
over_by w call key (outcome.Refused refusal) = over_settled call key (Some refusal) w.calls
over_by w call key o = None

-- no key is settled by it
abbrev pub with_met_by : WorldState → ℕ → Option Refusal → WorldState
with_met_by w call met = record w { calls = meet call met w.calls }

-- a call leaves
abbrev pub without_call : WorldState → ℕ → WorldState
without_call w call = record w { calls = drop_call call w.calls }

-- a call takes the keys of a stripe
abbrev pub with_look : WorldState → ℕ → ℕ → List Bytes → SweepState → WorldState
with_look w call stripe keys sweep =
    record w { calls = look call w.config.stripes stripe keys sweep w.calls }

-- what is kept of a key that was reserved
abbrev pub new_progress : First → PartProgress
new_progress first = record { change = change_asked first; out = nothing_said; is_changed = false; is_misled = false }

abbrev pub asks_as : First → Outcome
asks_as Nobody = outcome.Unfit  -- no reservation asks nobody
asks_as Loader = outcome.Loads
asks_as (Writer change) = outcome.Asks change
asks_as (Processor entry may_load) = outcome.Processes entry

abbrev pub new_part : PartProgress → Reservation → Part
new_part progress r = record { reservation = r; progress = progress }

abbrev pub with_part : WorldState → Bytes → Part → WorldState
with_part w key part = record w { parts = insert w.parts key part }

-- a key is reserved, and its stripe is then at another state
-- if it has no entry, the cache had nothing of it, and what it will have isn't from before
abbrev pub with_new_part : WorldState → Bytes → State → PartProgress → Reservation → WorldState
with_new_part w key to progress r =
    let foreign = without_foreign w.foreign key (is_none (cached_entry w key)) in
    record (with_part (with_stripe w key to) key (new_part progress r)) { foreign = foreign }

abbrev pub without_part : WorldState → Bytes → WorldState
without_part w key = record w { parts = remove w.parts key }

-- a commit that leaves what the store holds, or nothing, tells; one that was misled makes doubt otherwise
abbrev pub foreign_committed : WorldState → Bytes → Part → State → Cache
foreign_committed w key part to =
    without_foreign (with_doubt w.foreign key (is_misled part)) key (is_agreed (entry_at to.cache key) (entry_at w.store key))

-- the part of a commit is over
abbrev pub with_commit : WorldState → Bytes → Part → State → State → ℕ → Option Refusal → WorldState
with_commit w key part from to call met =
    record (without_part (with_settled (with_phase w key from to) call key met) key) { foreign = foreign_committed w key part to }

abbrev pub with_join : WorldState → JoinClaim → WorldState
with_join w join = record w { joins = insert w.joins (join_key join) join }

abbrev pub without_join : WorldState → ℕ → Bytes → WorldState
without_join w call key = record w { joins = remove w.joins (call, key) }

-- 2. The first phase, and the last.

-- the first phase of an operation at a key, by what it returns
abbrev pub BeginsAs : Caller → Bytes → Op → Begun → State → State → Type 0
BeginsAs caller key op b from to = Begins from caller key op b to

-- the key is reserved, and the one is to be asked whom its reservation asks first
abbrev pub ReservesAs : WorldState → Caller → Bytes → Op → State → State → Outcome → WorldState → Type 0
ReservesAs old caller key op from to o new =
    (ticket : TicketClaim) × BeginsAs caller key op (begun.Asks ticket) from to
    × (o ≡ asks_as ticket.reservation.first)
    × (new ≡ with_new_part old key to (new_progress ticket.reservation.first) ticket.reservation)

-- at a key whose stripe is at `from`, and is then at `to`
abbrev pub StartsAs : WorldState → Caller → Bytes → Op → State → State → Outcome → WorldState → Type 0
StartsAs old caller key op from to (outcome.Refused refusal) new =
    BeginsAs caller key op (begun.Refused refusal) from to
    × (new ≡ with_settled old caller.call key (Some refusal))
StartsAs old caller key op from to (outcome.PutOff refusal) new =
    BeginsAs caller key op (begun.Refused refusal) from to × (new ≡ old)
StartsAs old caller key op from to (outcome.Stepped seen) new =
    BeginsAs caller key op (begun.Done (step_of seen)) from to × (seen.stripe ≡ home old key)
    × (new ≡ with_settled (with_phase old key from to) caller.call key (fault_in seen.reply))
StartsAs old caller key op from to outcome.Loads new =
    ReservesAs old caller key op from to outcome.Loads new
StartsAs old caller key op from to (outcome.Asks change) new =
    ReservesAs old caller key op from to (outcome.Asks change) new
StartsAs old caller key op from to (outcome.Processes entry) new =
    ReservesAs old caller key op from to (outcome.Processes entry) new
StartsAs old caller key op from to outcome.Joins new =
    (join : JoinClaim) × BeginsAs caller key op (begun.Joined join) from to
    × (new ≡ with_join (with_stripe old key to) join)
StartsAs old caller key op from to o new = ⊥

abbrev pub RefusesAs : CallKind → Outcome → Type 0
RefusesAs kind (outcome.Refused refusal) = keeps_open kind refusal ≡ false
RefusesAs kind (outcome.PutOff refusal) = keeps_open kind refusal ≡ true
RefusesAs kind o = Unit {0}

abbrev pub EndsAs : WorldState → ℕ → Bytes → Part → State → State → Outcome → WorldState → Type 0
EndsAs old call key part from to (outcome.Stepped seen) new =
    Ends from part.reservation (out_of_part part) (step_of seen) to
    × (seen.stripe ≡ home old key)
    × (new ≡ with_commit old key part from to call (fault_in seen.reply))
EndsAs old call key part from to o new = ⊥

-- of a call that has joined the load of a key: its answer, with which the key is settled, or that it is to retry, or nothing yet
abbrev pub Picks : WorldState → ℕ → Bytes → JoinClaim → State → State → Outcome → WorldState → Type 0
Picks old call key join from to (outcome.PickedUp seen) new =
    PicksUp from join (polled.Answer seen.reply seen.place seen.shared) to
    × (seen.stripe ≡ home old key)
    × (new ≡ with_settled (without_join (with_stripe old key to) call key) call key (fault_in seen.reply))
Picks old call key join from to outcome.Again new =
    PicksUp from join polled.Again to × (new ≡ without_join (with_stripe old key to) call key)
Picks old call key join from to outcome.Waits new =
    PicksUp from join (polled.NotYet join) to × (new ≡ old)
Picks old call key join from to o new = ⊥

-- 3. Outside answers.

-- the world with this progress of a reserved key
abbrev pub with_progress : WorldState → Bytes → Part → PartProgress → WorldState
with_progress w key part progress = with_part w key (record part { progress = progress })

-- whoever was asked has answered, and was honest or not
abbrev pub with_heard : PartProgress → Bool → Bool → PartProgress
with_heard p was_misled honest = record p { is_misled = was_misled || not honest }

abbrev pub with_loaded : PartProgress → LoadAnswer → PartProgress
with_loaded p answer = record p { out = record p.out { load = answer } }

-- the loader's answer is kept
abbrev pub after_answer : WorldState → Bytes → Part → LoadAnswer → WorldState
after_answer w key part answer =
    let honest = is_true_load answer (entry_at w.store key) in
    let progress = with_heard (with_loaded part.progress answer) (is_misled part) honest in
    record (with_progress w key part progress) { premises = with_loader w.premises honest }

abbrev pub with_change : PartProgress → PartProgress
with_change p = record p { is_changed = true; is_misled = false }

-- the store is as the writer was asked, and so will the entry be
abbrev pub after_change : WorldState → Bytes → Part → Change → WorldState
after_change w key part change =
    let progress = with_change part.progress in
    record (with_progress w key part progress) {
      store = with_entry w.store key (changed_to change);
      foreign = without_foreign w.foreign key true;
    }

abbrev pub with_report : PartProgress → WriteAnswer → PartProgress
with_report p report = record p { out = record p.out { write = report } }

-- the writer's report for a key is kept
abbrev pub after_report : WorldState → Bytes → Part → WriteAnswer → WorldState
after_report w key part report =
    let honest = is_true_report report (has_changed part) in
    let progress = with_heard (with_report part.progress report) (is_misled part) honest in
    record (with_progress w key part progress) { premises = with_writer w.premises honest }

-- what a writer's return shows of a key
abbrev pub reported_part : WriterBatch → Bytes → Part → Option ReportedKey
reported_part batch key part =
    if is_in_batch batch part
    then option_map (λ change. record { key = key; change = change; is_changed = has_changed part })
    (writer_change part)
    else None

abbrev pub reported_in : WriterBatch → Bytes → Option Part → Option ReportedKey
reported_in batch key None = None
reported_in batch key (Some part) = reported_part batch key part

abbrev pub reported_key : WriterBatch → Parts → ℕ → Bytes → Option ReportedKey
reported_key batch parts call key = reported_in batch key (of_call call (get parts key))

abbrev pub reported_keys : WriterBatch → Parts → ℕ → List Bytes → List ReportedKey
reported_keys batch parts call keys = filter_map (reported_key batch parts call) keys

-- of those for which the call has the writer asked now
abbrev pub reported_now : WorldState → ℕ → CallState → List ReportedKey
reported_now w call u = reported_keys (writer_batch w.parts call u) w.parts call (open_keys u)

abbrev pub keys_reported : List ReportedKey → List Bytes
keys_reported reported = map (λ one. one.key) reported

-- the writer returns for a key, if it is waited for there
abbrev pub reported_at : WorldState → Bytes → WriteAnswer → Option Part → WorldState
reported_at w key report None = w
reported_at w key report (Some part) =
    if waits_for_report part then after_report w key part report else w

-- the writer returns for each of these keys, with this answer for each
abbrev pub after_reports : WorldState → ℕ → (Bytes → WriteAnswer) → List Bytes → WorldState
after_reports w call answer [] = w
after_reports w call answer (key ∷ keys) =
    after_reports (reported_at w key (answer key) (part_of w call key)) call answer keys

-- the entry of a reservation is the one that the call found: it stays until the commit
abbrev pub run_answers : Reservation → LoadAnswer → List EntryCall → List EntryAnswer
run_answers r answer calls = played_answers (is_loadable r.first) (entry_seen r.first) answer calls

abbrev pub run_result : Reservation → LoadAnswer → List EntryCall → Option ℕ
    → ProcessResult Claim
run_result r answer calls fail =
    record {
      ask = claim_of r;
      origin = Played;
      load = played_load (is_loadable r.first) (entry_seen r.first) answer calls;
      process = played_outcome (is_loadable r.first) (entry_seen r.first) answer calls fail;
    }

abbrev pub progress_after : Option Change → ProcessResult Claim → PartProgress
progress_after change done =
    record {
      change = change;
      out = record { load = done.load; write = write.NotAsked; process = done.process };
      is_changed = false;
      is_misled = false;
    }

-- what the processor did is kept, and the writer is asked for its net effect if that is due
abbrev pub after_process : WorldState → Bytes → Part → ProcessResult Claim → WorldState
after_process w key part done =
    let honest = is_true_load done.load (entry_at w.store key) in
    let progress = with_heard (progress_after (change_due w.config done) done) (is_misled part) honest in
    record (with_progress w key part progress) { premises = with_loader w.premises honest }

-- what a processor's run shows
abbrev pub shown_process : Config → Reservation → LoadAnswer → List EntryCall → Option ℕ
    → ProcessShown
shown_process config r answer calls fail =
    let done = run_result r answer calls fail in
    record {
      answers = run_answers r answer calls;
      load = done.load;
      fault = fail;
      change = change_due config done;
    }

-- the eviction of an invalidated key, if the stripe with this number has appended it
abbrev pub eviction_place : ℕ → State → State → Option EvictionPlace
eviction_place stripe from to =
    if nat_lt (length from.history) (length to.history)
    then Some (record { stripe = stripe; place = length from.history })
    else None

-- what an invalidation shows
abbrev pub invalidated_as : ℕ → Bytes → State → State → Outcome
invalidated_as stripe key from to =
    if is_reserved from key then outcome.Marked else outcome.Invalidated (eviction_place stripe from to)

-- 4. What an event that fits shows and leaves.

abbrev pub Happens : WorldState → WorldEvent → Shown → WorldState → Type 0
Happens old (event.Call call session command) seen new =
    (seen ≡ shown_begun (new_call call session command))
    × (new ≡ with_call old (new_call call session command))
Happens old (event.Look call stripe) seen new =
    (u : CallState) × (sweep : SweepState) × (open_call old call ≡ Some u) × (u.sweep ≡ Some sweep)
    × (from : State) × (slice_get old.stripes stripe ≡ Some from)
    × (keys : List Bytes) × AreKeys from keys
    × (seen ≡ record { outcome = outcome.Looked; over = over_of (with_swept_keys old.config.stripes stripe keys sweep u) })
    × (new ≡ with_look old call stripe keys sweep)
Happens old (event.Start call key) seen new =
    (u : CallState) × (op : Op) × (open_call old call ≡ Some u) × (op_at u key ≡ Some op)
    × (from : State) × (stripe_for old key ≡ Some from) × (to : State)
    × StartsAs old u.caller key op from to seen.outcome new × RefusesAs u.kind seen.outcome
    × (seen.over ≡ over_by old u.caller.call key seen.outcome)
Happens old (event.Read call key) seen new =
    let answer = read_answer (entry_at old.store key) in
    (part : Part) × (part_of old call key ≡ Some part) × (seen ≡ not_over (outcome.Reads answer))
    × (new ≡ after_answer old key part answer)
Happens old (event.Say call key answer) seen new =
    (part : Part) × (part_of old call key ≡ Some part) × (seen ≡ not_over (outcome.Says answer))
    × (new ≡ after_answer old key part answer)
Happens old (event.Change call key) seen new =
    (part : Part) × (change : Change) × (part_of old call key ≡ Some part)
    × (writer_change part ≡ Some change) × (seen ≡ not_over outcome.Changed)
    × (new ≡ after_change old key part change)
Happens old (event.Report call left fault) seen new =
    (u : CallState) × (open_call old call ≡ Some u)
    × (seen ≡ not_over (outcome.Reported (record { keys = reported_now old call u; fault = fault })))
    × (new ≡ after_reports (with_met_by old call (option_map WriterFailed fault)) call
    (report_for u.kind left fault) (keys_reported (reported_now old call u)))
Happens old (event.Process call key source calls fail) seen new =
    let answer = load_from source (entry_at old.store key) in
    (part : Part) × (part_of old call key ≡ Some part)
    × (seen ≡ not_over (outcome.Processed (shown_process old.config part.reservation answer calls fail)))
    × (new ≡ after_process old key part (run_result part.reservation answer calls fail))
Happens old (event.Commit call key) seen new =
    (part : Part) × (part_of old call key ≡ Some part)
    × (from : State) × (stripe_for old key ≡ Some from) × (to : State)
    × EndsAs old call key part from to seen.outcome new
    × (seen.over ≡ over_by old call key seen.outcome)
Happens old (event.Withdraw call key) seen new =
    (part : Part) × (part_of old call key ≡ Some part)
    × (from : State) × (stripe_for old key ≡ Some from) × (to : State)
    × GivesBack from part.reservation to × (seen ≡ not_over (outcome.Withdrawn (eviction_place (home old key) from to)))
    × (new ≡ without_part (with_phase old key from to) key)
Happens old (event.Leave call) seen new =
    (seen ≡ not_over outcome.Left) × (new ≡ without_call old call)
Happens old (event.PickUp call key) seen new =
    (join : JoinClaim) × (join_of old call key ≡ Some join)
    × (from : State) × (stripe_for old key ≡ Some from) × (to : State)
    × Picks old call key join from to seen.outcome new
    × (seen.over ≡ over_by old call key seen.outcome)
Happens old (event.Foreign key value) seen new =
    let store = with_entry old.store key value in
    (seen ≡ not_over outcome.Written)
    × (new ≡ record old { store = store; foreign = with_foreign old.foreign key; is_fresh = false })
Happens old (event.Invalidate key) seen new =
    (from : State) × (stripe_for old key ≡ Some from) × (to : State) × Invalidates from key to
    × (seen ≡ not_over (invalidated_as (home old key) key from to))
    × (new ≡ record (with_phase old key from to) { is_fresh = false })
Happens old (event.Reopen config) seen new =
    (seen ≡ not_over (outcome.Reopened (keys_dropped config old))) × (new ≡ after_reopening config old)
