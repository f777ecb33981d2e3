-- The phases that a desk makes on its stripe for a driver that names tickets by numbers, and which answers it accepts.
--     newest               the reservation that is out and was made last
--     BeginsWithMoves      a first phase has this outcome, with this reply and these moves if the call is done
--     RenewsAndBegins      the first phase of the desk's next call, before which a full generation has ended; the call might be
--                          made, no events were to be taken first, and the desk wasn't shut
--     BeginsAtDesk         as `RenewsAndBegins`; or nothing was done: the call might be made, and the events of a full generation
--                          are to be taken, or the desk is shut; or the call might not be made
--     is_first_misuse      the answer is that the call may not begin
--     HitsAtDesk           a get that found its entry, as the desk's next call
--     hits_next            a get finds its entry, as the desk's next call
--     without_hit          the desk, if a get finds no entry: its generation has ended, if it was full and might end, the call
--                          might be made, and no events were to be taken first; otherwise it is as it was
--     ticket_of            the reservation with this number that is out, if there is one
--     asks_first           there is a reservation, and it asks this one first
--     AnswersTicket        a reservation with this number is out, and these are the answers of whom it asks first
--     takes_load           a reservation with this number is out that asks the loader, and the loader answered
--     takes_write          the same for the writer
--     fits_processor       a processor is asked, it ran, and its loader answered only if it may be asked
--     wants_writer         the writer is to be asked after a processor: with write-through, if the processor has a change for it
--     takes_process        a reservation with this number is out that asks a processor, these answers fit it, and the writer
--                          answered exactly if it was to be asked
--     has_joined_load      some joiner has joined this load
--     is_join_out          a join is out: its call is among the joiners of its key, and joined this load
--     CommitsAtDesk        the last phase of the reservation with this number
--     WithdrawsAtDesk      the reservation with this number is given back, with the value that the key's entry lost by that
--     PicksUpAtDesk        a joiner asks for its answer; or no such join is out, and nothing was done
--     is_pick_up_misuse    the answer is that no such join is out
--     makes_place          the generation ends for the eviction of an invalidated key: no place is free, and it may end, and its
--                          events aren't to be taken
--     with_place           the stripe after that
--     InvalidatesAtDesk    a key is invalidated, with the value that its entry lost
--     InvalidatesAllAtDesk all keys are invalidated
--     answer_without_place     an entry is left for which there is no place: the events are to be taken first, or something ends
--                              first
--     sweep_answer         whether an entry was evicted, calls may begin, the events are to be taken first, or there is no place
--                          now
--     SweepsAtDesk         an entry of a desk that is shut is evicted, or calls may begin again
use Rattle.std.specs.Prelude.{◌≡◌, ◌==◌, ◌&&◌, ◌+◌, ◌-◌, ℕ, Bool, true, false, not, Option, None, Some, is_some, find, length}
use Rattle.std.specs.Prelude.{slice_get, if◌then◌else◌}
use Rattle.std.specs.Bool.{beq}
use Rattle.jc_types.specs.declared.caller.Caller.{Caller}
use Rattle.jc_types.specs.declared.config.Config.{Config}
use Rattle.jc_model.specs.declared.event.Op.{Op}
use Rattle.jc_model.specs.declared.event.Op.TheVariants.{Get}
use Rattle.jc_model.specs.declared.event.Out.{Out}
use Rattle.jc_model.specs.declared.event.Reply.{Reply}
use Rattle.jc_model.specs.declared.event.LoadAnswer.{LoadAnswer}
use Rattle.jc_model.specs.declared.event.WriteAnswer.{WriteAnswer}
use Rattle.jc_model.specs.declared.event.ProcessAnswer.{ProcessAnswer}
use Rattle.jc_model.specs.Cache.{Bytes, entry_at}
use Rattle.jc_model.specs.Table.{is_process_given, is_load_given, is_write_given, load_fits, wanted_if}
use Rattle.jc_inflight.specs.declared.joiner.Joiner.{Joiner}
use Rattle.jc_inflight.specs.Joining.{belongs_to, callers_of}
use Rattle.jc_stripe.specs.declared.ticket.First.{First}
use Rattle.jc_stripe.specs.declared.ticket.Reservation.{Reservation}
use Rattle.jc_stripe.specs.Outcomes.{StepDone}
use Rattle.jc_stripe.specs.Outcomes as begun
use Rattle.jc_stripe.specs.Polled as polled
use Rattle.jc_stripe.specs.declared.desk.answers.FirstAnswer.{FirstAnswer}
use Rattle.jc_stripe.specs.declared.desk.answers.FirstAnswer.TheVariants as first_answer
use Rattle.jc_stripe.specs.declared.desk.answers.CommitDone.{CommitDone}
use Rattle.jc_stripe.specs.declared.desk.answers.PickUpAnswer.{PickUpAnswer}
use Rattle.jc_stripe.specs.declared.desk.answers.PickUpAnswer.TheVariants as pick_up_answer
use Rattle.jc_stripe.specs.declared.desk.answers.SweepAnswer.{SweepAnswer}
use Rattle.jc_stripe.specs.declared.desk.answers.SweepAnswer.TheVariants as sweep_answers
use Rattle.jc_mutentry.specs.Done.{effect_change}
use Rattle.jc_stripe.specs.State.{State}
use Rattle.jc_stripe.specs.Tickets.{JoinClaim, TicketClaim, asks_loader, asks_writer, asks_processor, is_loadable}
use Rattle.jc_stripe.specs.Phases.{Begins, PicksUp, hit_done}
use Rattle.jc_stripe.specs.Invalidating.{has_place, Ends, GivesBack, Invalidates, InvalidatesAll, Sweeps}
use Rattle.jc_stripe.specs.Refusals.{may_hit}
use Rattle.jc_stripe.specs.Appending.{AnswersFirst}
use Rattle.jc_stripe.specs.Generations.{after_renewal}
use Rattle.jc_stripe.specs.Renewal.{RenewsIfFull, can_renew}
use Rattle.jc_stripe.specs.ValuesMoved.{MovesMade, MovesValues, DropsValue, SweepsValue, swept_key}
use Rattle.jc_stripe.specs.DeskState.{DeskState, may_call_next, awaits_end, renewed_if_full}

-- 1. First phases.

abbrev pub newest : State → Option Reservation
newest state = slice_get state.reservations (length state.reservations - 1)

abbrev pub BeginsWithMoves : State → Caller → Bytes → Op → Reply → MovesMade → FirstAnswer → State → Type 0
BeginsWithMoves old caller key op reply moves (first_answer.Done place) new =
    (done : StepDone) × Begins old caller key op (begun.Done done) new × (done.reply ≡ reply) × (done.place ≡ place)
    × MovesValues old key done.victim done.evicted moves new
BeginsWithMoves old caller key op reply moves (first_answer.Asks number) new =
    (ticket : TicketClaim) × Begins old caller key op (begun.Asks ticket) new × (ticket.reservation.number ≡ number)
    × (newest new ≡ Some ticket.reservation)
BeginsWithMoves old caller key op reply moves (first_answer.Joined load) new =
    Begins old caller key op (begun.Joined (record { caller = caller; key = key; load = load })) new
BeginsWithMoves old caller key op reply moves (first_answer.Refused refusal) new =
    Begins old caller key op (begun.Refused refusal) new
BeginsWithMoves old caller key op reply moves first_answer.Full new = ⊥
BeginsWithMoves old caller key op reply moves first_answer.Shut new = ⊥
BeginsWithMoves old caller key op reply moves first_answer.Misuse new = ⊥

pub record RenewsAndBegins (old : DeskState) (session call : ℕ) (key : Bytes) (op : Op) (reply : Reply) (moves : MovesMade)
    (answer : FirstAnswer) (new : DeskState) : Type 0 where
  pub may : may_call_next old session key ≡ true
  pub free : awaits_end old ≡ false
  pub unshut : old.stripe.shut ≡ false
  pub between : State
  pub renews : RenewsIfFull old.stripe between
  pub call_is : call ≡ old.next
  pub begins : BeginsWithMoves between (record { session = session; call = call }) key op reply moves answer new.stripe
  pub rest : new ≡ record old { stripe = new.stripe; next = old.next + 1 }

abbrev pub BeginsAtDesk : DeskState → ℕ → ℕ → Bytes → Op → Reply → MovesMade → FirstAnswer → DeskState → Type 0
BeginsAtDesk old session call key op reply moves first_answer.Full new =
    (new ≡ old) × (call ≡ old.next) × (may_call_next old session key ≡ true) × (awaits_end old ≡ true)
BeginsAtDesk old session call key op reply moves first_answer.Shut new =
    (new ≡ old) × (call ≡ old.next) × (may_call_next old session key ≡ true) × (awaits_end old ≡ false) × (old.stripe.shut ≡ true)
BeginsAtDesk old session call key op reply moves first_answer.Misuse new =
    (new ≡ old) × (call ≡ old.next) × (may_call_next old session key ≡ false)
BeginsAtDesk old session call key op reply moves answer new = RenewsAndBegins old session call key op reply moves answer new

abbrev pub is_first_misuse : FirstAnswer → Bool
is_first_misuse (first_answer.Done place) = false
is_first_misuse (first_answer.Asks number) = false
is_first_misuse (first_answer.Joined load) = false
is_first_misuse (first_answer.Refused refusal) = false
is_first_misuse first_answer.Full = false
is_first_misuse first_answer.Shut = false
is_first_misuse first_answer.Misuse = true

pub record HitsAtDesk (old : DeskState) (session : ℕ) (key value : Bytes) (call : ℕ) (new : DeskState) : Type 0 where
  pub between : State
  pub renews : RenewsIfFull old.stripe between
  pub call_is : call ≡ old.next
  pub begins : Begins between (record { session = session; call = call }) key Get
      (begun.Done (hit_done (length between.history) value)) new.stripe
  pub rest : new ≡ record old { stripe = new.stripe; next = old.next + 1 }

abbrev pub hits_next : DeskState → ℕ → Bytes → Bool
hits_next desk session key =
    may_call_next desk session key && not (awaits_end desk) && may_hit (renewed_if_full desk.stripe) desk.next key
    && is_some (entry_at desk.stripe.cache key)

abbrev pub without_hit : DeskState → ℕ → Bytes → DeskState
without_hit desk session key =
    if may_call_next desk session key && not (awaits_end desk) then record desk { stripe = renewed_if_full desk.stripe } else desk

-- 2. The answers that a desk accepts.

abbrev pub ticket_of : State → ℕ → Option Reservation
ticket_of state number = find (λ r. r.number == number) state.reservations

abbrev pub asks_first : (First → Bool) → Option Reservation → Bool
asks_first asks None = false
asks_first asks (Some r) = asks r.first

abbrev pub AnswersTicket : State → ℕ → Out → Type 0
AnswersTicket state number out = (r : Reservation) × (ticket_of state number ≡ Some r) × AnswersFirst state.config r.first out

abbrev pub takes_load : State → ℕ → LoadAnswer → Bool
takes_load state number answer = is_load_given answer && asks_first asks_loader (ticket_of state number)

abbrev pub takes_write : State → ℕ → WriteAnswer → Bool
takes_write state number answer = is_write_given answer && asks_first asks_writer (ticket_of state number)

abbrev pub fits_processor : LoadAnswer → ProcessAnswer → First → Bool
fits_processor load process first =
    asks_processor first && is_process_given process && load_fits (wanted_if (is_loadable first)) (is_load_given load)

abbrev pub wants_writer : Config → LoadAnswer → ProcessAnswer → Bool
wants_writer config load process = config.write_through && is_some (effect_change load process)

abbrev pub takes_process : State → ℕ → Out → Bool
takes_process state number out =
    asks_first (fits_processor out.load out.process) (ticket_of state number)
    && beq (wants_writer state.config out.load out.process) (is_write_given out.write)

abbrev pub has_joined_load : Option Joiner → ℕ → Bool
has_joined_load None load = false
has_joined_load (Some j) load = j.load == load

abbrev pub is_join_out : State → JoinClaim → Bool
is_join_out state join = has_joined_load (find (belongs_to join.caller join.key) state.joiners) join.load

-- 3. Last phases.

pub record CommitsAtDesk (old : DeskState) (number : ℕ) (out : Out) (reply : Reply) (moves : MovesMade) (commit : CommitDone)
    (new : DeskState) : Type 0 where
  pub reservation : Reservation
  pub ticket : ticket_of old.stripe number ≡ Some reservation
  pub done : StepDone
  pub ends : Ends old.stripe reservation out done new.stripe
  pub reply_is : done.reply ≡ reply
  pub place : done.place ≡ commit.place
  pub shared : commit.shared ≡ length (callers_of number old.stripe.joiners)
  pub moves_are : MovesValues old.stripe reservation.key done.victim done.evicted moves new.stripe
  pub rest : new ≡ record old { stripe = new.stripe }

pub record WithdrawsAtDesk (old : DeskState) (number : ℕ) (moves : MovesMade) (new : DeskState) : Type 0 where
  pub reservation : Reservation
  pub ticket : ticket_of old.stripe number ≡ Some reservation
  pub gives_back : GivesBack old.stripe reservation new.stripe
  pub moves_are : DropsValue old.stripe reservation.key moves new.stripe
  pub rest : new ≡ record old { stripe = new.stripe }

abbrev pub PicksUpAtDesk : DeskState → JoinClaim → Reply → PickUpAnswer → DeskState → Type 0
PicksUpAtDesk old join reply (pick_up_answer.Answer place shared_with) new =
    PicksUp old.stripe join (polled.Answer reply place shared_with) new.stripe × (new ≡ record old { stripe = new.stripe })
PicksUpAtDesk old join reply pick_up_answer.Again new =
    PicksUp old.stripe join polled.Again new.stripe × (new ≡ record old { stripe = new.stripe })
PicksUpAtDesk old join reply pick_up_answer.NotYet new =
    PicksUp old.stripe join (polled.NotYet join) new.stripe × (new ≡ record old { stripe = new.stripe })
PicksUpAtDesk old join reply pick_up_answer.Misuse new = (new ≡ old) × (is_join_out old.stripe join ≡ false)

abbrev pub is_pick_up_misuse : PickUpAnswer → Bool
is_pick_up_misuse (pick_up_answer.Answer place shared_with) = false
is_pick_up_misuse pick_up_answer.Again = false
is_pick_up_misuse pick_up_answer.NotYet = false
is_pick_up_misuse pick_up_answer.Misuse = true

-- 4. Invalidations.

abbrev pub makes_place : DeskState → Bool
makes_place desk = not desk.keeps_events && not (has_place desk.stripe) && can_renew desk.stripe

abbrev pub with_place : DeskState → State
with_place desk = if makes_place desk then after_renewal desk.stripe else desk.stripe

pub record InvalidatesAtDesk (old : DeskState) (key : Bytes) (moves : MovesMade) (new : DeskState) : Type 0 where
  pub invalidates : Invalidates (with_place old) key new.stripe
  pub moves_are : DropsValue (with_place old) key moves new.stripe
  pub rest : new ≡ record old { stripe = new.stripe }

abbrev pub InvalidatesAllAtDesk : DeskState → DeskState → Type 0
InvalidatesAllAtDesk old new = InvalidatesAll old.stripe new.stripe × (new ≡ record old { stripe = new.stripe })

-- no place is free for an eviction that is left
abbrev pub answer_without_place : Bool → SweepAnswer
answer_without_place true = sweep_answers.Full
answer_without_place false = sweep_answers.NoPlace

abbrev pub sweep_answer : Bool → State → SweepAnswer
sweep_answer evicted state =
    if evicted then sweep_answers.Evicted else (if state.shut then answer_without_place (can_renew state) else sweep_answers.Open)

pub record SweepsAtDesk (old : DeskState) (moves : MovesMade) (answer : SweepAnswer) (new : DeskState) : Type 0 where
  pub sweeps : Sweeps (with_place old) new.stripe
  pub moves_are : SweepsValue (with_place old) moves new.stripe
  pub answer_is : answer ≡ sweep_answer (is_some (swept_key (with_place old))) new.stripe
  pub rest : new ≡ record old { stripe = new.stripe }
