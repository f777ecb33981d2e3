-- The replies as they are written for C.
--     ShowsFault          a fault, by its number and its code
--     ShowsReply          a reply, by its number, its code and its value
--     ShowsValue          a value, if there is one
--     ShowsVictim         a victim with the value that it had, if there is one
--     own_number          the cause for which the key's own entry was evicted, by its flag
--     ShowsMoves          the values that came and went: the sum of their flags, and the values
--     ShowsDone           a step that was done, by its place, its reply, its moves, and the number of calls that share it
--     ShowsFirst          the partner to ask, and the value to ask with
--     refusal_number      a refusal, by its number
--     ShowsReservation    the partner that a reservation asks first, if there is a reservation
--     ShowsFirstAnswer    the outcome of a first phase; if it reserved its key, the partner that the reservation asks
--     ShowsPickUp         the answer to a joiner: no value came or went
--     ShowsGone           what a phase answers that is no call's step, and the values that went by it
--     shut_number         whether a desk is shut, as what is to be done next
--     sweep_number        the outcome of a sweep, as what is to be done next
--     KeepsBesideValue    if a value was written, the bytes behind it stay; if none was, all of the room stays
--     KeepsBesideVictim   the same for a victim and the value that it had
--     KeepsBesideReply    the same for the value of a reply; the code stays, but with a fault
--     KeepsBesideDone     beside a step that was done, only its place, its reply, its moves and the number of calls that share it
--                         are written
--     KeepsBesideFirst    beside a partner to ask, only what is asked for is written
--     KeepsBesideReservation    the same for the newest reservation, if there is one
--     KeepsBesideAnswer   the same for the outcome of a first phase, beside the call's number
--     KeepsBesidePickUp   the same for the answer of a pick-up
--     KeepsBesideGone     beside what a phase answers that is no call's step, only the values that went are written
use Rattle.std.specs.Prelude.{◌≡◌, ◌+◌, ℕ, Bool, true, false, Option, None, Some, is_some, if◌then◌else◌}
use Rattle.jc_types.specs.declared.refusal.Refusal.{Refusal}
use Rattle.jc_types.specs.declared.refusal.Refusal.TheVariants as refusal
use Rattle.jc_model.specs.declared.event.Cause.{Cause}
use Rattle.jc_model.specs.declared.event.Cause.TheVariants as cause
use Rattle.jc_model.specs.declared.event.Change.TheVariants as change
use Rattle.jc_model.specs.declared.event.Reply.{Reply}
use Rattle.jc_model.specs.declared.event.Reply.TheVariants as reply
use Rattle.jc_model.specs.Cache.{Bytes}
use Rattle.jc_stripe.specs.declared.ticket.First.{First}
use Rattle.jc_stripe.specs.declared.ticket.First.TheVariants as first
use Rattle.jc_stripe.specs.declared.ticket.Reservation.{Reservation}
use Rattle.jc_stripe.specs.declared.desk.answers.FirstAnswer.{FirstAnswer}
use Rattle.jc_stripe.specs.declared.desk.answers.FirstAnswer.TheVariants as first_answer
use Rattle.jc_stripe.specs.declared.desk.answers.PickUpAnswer.{PickUpAnswer}
use Rattle.jc_stripe.specs.declared.desk.answers.PickUpAnswer.TheVariants as pick_up_answer
use Rattle.jc_stripe.specs.declared.desk.answers.SweepAnswer.{SweepAnswer}
use Rattle.jc_stripe.specs.declared.desk.answers.SweepAnswer.TheVariants as sweep_answers
use Rattle.jc_stripe.specs.ValuesMoved.{MovesMade}
use Rattle.jc_c.specs.declared.codes.TheConstants.{JC_NEXT_AGAIN, JC_ASK_LOAD, JC_REFUSAL_BUSY, JC_NEXT_DONE, JC_MOVE_EVICTED}
use Rattle.jc_c.specs.declared.codes.TheConstants.{JC_NEXT_FULL, JC_ASK_DELETE, JC_ASK_WRITE, JC_REFUSAL_HISTORY_FULL}
use Rattle.jc_c.specs.declared.codes.TheConstants.{JC_NEXT_JOINED, JC_MOVE_STORED, JC_MOVE_REMOVED, JC_REPLY_LOADER_FAILED}
use Rattle.jc_c.specs.declared.codes.TheConstants.{JC_REPLY_NO, JC_NEXT_NOT_YET, JC_REPLY_NULL, JC_REFUSAL_OTHER}
use Rattle.jc_c.specs.declared.codes.TheConstants.{JC_REPLY_OTHER_FAULT, JC_MOVE_OWN_EVICTED_FULL, JC_MOVE_OWN_EVICTED_MEMORY}
use Rattle.jc_c.specs.declared.codes.TheConstants.{JC_MOVE_INVALIDATED, JC_NEXT_SHUT, JC_REPLY_PROCESSOR_FAILED, JC_NEXT_REFUSED}
use Rattle.jc_c.specs.declared.codes.TheConstants.{JC_ASK_PROCESS, JC_REFUSAL_TOO_MANY_IN_FLIGHT, JC_REFUSAL_TOO_MANY_JOINERS}
use Rattle.jc_c.specs.declared.codes.TheConstants.{JC_REPLY_UNIT, JC_REPLY_VALUE, JC_REPLY_WRITER_FAILED, JC_REPLY_YES}
use Rattle.jc_c.specs.declared.layouts.InlineValue.{InlineValue}
use Rattle.jc_c.specs.declared.layouts.InlineKey.{InlineKey}
use Rattle.jc_c.specs.declared.layouts.PhaseOut.{PhaseOut}
use Rattle.jc_c.specs.Layouts.{HoldsValue, HoldsKey, StaysBehindValue, StaysBehindKey}

abbrev pub ShowsFault : Refusal → ℕ → ℕ → Type 0
ShowsFault (refusal.LoaderFailed code) number shown = (number ≡ JC_REPLY_LOADER_FAILED) × (shown ≡ code)
ShowsFault (refusal.WriterFailed code) number shown = (number ≡ JC_REPLY_WRITER_FAILED) × (shown ≡ code)
ShowsFault (refusal.ProcessorFailed code) number shown = (number ≡ JC_REPLY_PROCESSOR_FAILED) × (shown ≡ code)
ShowsFault refusal.HistoryFull number shown = number ≡ JC_REPLY_OTHER_FAULT
ShowsFault refusal.Busy number shown = number ≡ JC_REPLY_OTHER_FAULT
ShowsFault refusal.TooManyInFlight number shown = number ≡ JC_REPLY_OTHER_FAULT
ShowsFault refusal.TooManyJoiners number shown = number ≡ JC_REPLY_OTHER_FAULT
ShowsFault refusal.OutOfMemory number shown = number ≡ JC_REPLY_OTHER_FAULT
ShowsFault refusal.TooManyKeys number shown = number ≡ JC_REPLY_OTHER_FAULT
ShowsFault (refusal.BadConfig field) number shown = number ≡ JC_REPLY_OTHER_FAULT
ShowsFault refusal.NoLoader number shown = number ≡ JC_REPLY_OTHER_FAULT
ShowsFault refusal.NoWriter number shown = number ≡ JC_REPLY_OTHER_FAULT
ShowsFault refusal.TooManySessions number shown = number ≡ JC_REPLY_OTHER_FAULT
ShowsFault refusal.StillReserved number shown = number ≡ JC_REPLY_OTHER_FAULT
ShowsFault refusal.RepeatedKey number shown = number ≡ JC_REPLY_OTHER_FAULT

abbrev pub ShowsReply : Reply → ℕ → ℕ → InlineValue → Type 0
ShowsReply reply.Unit number code value = number ≡ JC_REPLY_UNIT
ShowsReply (reply.Flag false) number code value = number ≡ JC_REPLY_NO
ShowsReply (reply.Flag true) number code value = number ≡ JC_REPLY_YES
ShowsReply (reply.Value None) number code value = number ≡ JC_REPLY_NULL
ShowsReply (reply.Value (Some v)) number code value = (number ≡ JC_REPLY_VALUE) × HoldsValue value v
ShowsReply (reply.Fault fault) number code value = ShowsFault fault number code

abbrev pub ShowsValue : Option Bytes → InlineValue → Type 0
ShowsValue None r = Unit {0}
ShowsValue (Some value) r = HoldsValue r value

abbrev pub ShowsVictim : Option (Bytes × Bytes) → InlineKey → InlineValue → Type 0
ShowsVictim None victim evicted = Unit {0}
ShowsVictim (Some gone) victim evicted = HoldsKey victim gone.0 × HoldsValue evicted gone.1

abbrev pub own_number : Option Cause → ℕ
own_number None = 0
own_number (Some cause.Full) = JC_MOVE_OWN_EVICTED_FULL
own_number (Some cause.Memory) = JC_MOVE_OWN_EVICTED_MEMORY
own_number (Some cause.Invalidated) = JC_MOVE_INVALIDATED

pub record ShowsMoves (moves : MovesMade) (flags : ℕ) (left : InlineValue) (victim : InlineKey)
    (evicted : InlineValue) : Type 0 where
  pub flags_are : flags ≡ (if moves.kept then JC_MOVE_STORED else 0) + (if is_some moves.left then JC_MOVE_REMOVED else 0)
      + (if is_some moves.victim then JC_MOVE_EVICTED else 0) + own_number moves.own
  pub left_is : ShowsValue moves.left left
  pub victim_is : ShowsVictim moves.victim victim evicted

pub record ShowsDone (place shared : ℕ) (reply : Reply) (moves : MovesMade) (out : PhaseOut) : Type 0 where
  pub next_is : out.next ≡ JC_NEXT_DONE
  pub place_is : out.place ≡ place
  pub shared_is : out.shared ≡ shared
  pub reply_is : ShowsReply reply out.reply out.code out.value
  pub moves_are : ShowsMoves moves out.moves out.left out.victim out.evicted

abbrev pub ShowsFirst : First → ℕ → ℕ → ℕ → InlineValue → Type 0
ShowsFirst first.Nobody next number code value = next ≡ JC_NEXT_DONE
ShowsFirst first.Loader next number code value = next ≡ JC_ASK_LOAD
ShowsFirst (first.Writer (change.Write v)) next number code value = (next ≡ JC_ASK_WRITE) × HoldsValue value v
ShowsFirst (first.Writer change.Delete) next number code value = next ≡ JC_ASK_DELETE
ShowsFirst (first.Processor None may_load) next number code value = (next ≡ JC_ASK_PROCESS) × (number ≡ JC_REPLY_NULL)
    × (code ≡ (if may_load then 1 else 0))
ShowsFirst (first.Processor (Some v) may_load) next number code value = (next ≡ JC_ASK_PROCESS) × (number ≡ JC_REPLY_VALUE)
    × (code ≡ (if may_load then 1 else 0)) × HoldsValue value v

abbrev pub refusal_number : Refusal → ℕ
refusal_number refusal.HistoryFull = JC_REFUSAL_HISTORY_FULL
refusal_number refusal.Busy = JC_REFUSAL_BUSY
refusal_number refusal.TooManyInFlight = JC_REFUSAL_TOO_MANY_IN_FLIGHT
refusal_number refusal.TooManyJoiners = JC_REFUSAL_TOO_MANY_JOINERS
refusal_number (refusal.LoaderFailed code) = JC_REFUSAL_OTHER
refusal_number (refusal.WriterFailed code) = JC_REFUSAL_OTHER
refusal_number (refusal.ProcessorFailed code) = JC_REFUSAL_OTHER
refusal_number refusal.OutOfMemory = JC_REFUSAL_OTHER
refusal_number refusal.TooManyKeys = JC_REFUSAL_OTHER
refusal_number (refusal.BadConfig field) = JC_REFUSAL_OTHER
refusal_number refusal.NoLoader = JC_REFUSAL_OTHER
refusal_number refusal.NoWriter = JC_REFUSAL_OTHER
refusal_number refusal.TooManySessions = JC_REFUSAL_OTHER
refusal_number refusal.StillReserved = JC_REFUSAL_OTHER
refusal_number refusal.RepeatedKey = JC_REFUSAL_OTHER

abbrev pub ShowsReservation : Option Reservation → PhaseOut → Type 0
ShowsReservation None out = Unit {0}
ShowsReservation (Some r) out = ShowsFirst r.first out.next out.reply out.code out.value

abbrev pub ShowsFirstAnswer : FirstAnswer → Option Reservation → Reply → MovesMade → PhaseOut → Type 0
ShowsFirstAnswer (first_answer.Done place) newest reply moves out = ShowsDone place 0 reply moves out
ShowsFirstAnswer (first_answer.Asks number) newest reply moves out = (out.number ≡ number) × (out.moves ≡ 0)
    × ShowsReservation newest out
ShowsFirstAnswer (first_answer.Joined load) newest reply moves out = (out.next ≡ JC_NEXT_JOINED) × (out.number ≡ load)
    × (out.moves ≡ 0)
ShowsFirstAnswer (first_answer.Refused refusal) newest reply moves out = (out.next ≡ JC_NEXT_REFUSED)
    × (out.reply ≡ refusal_number refusal) × (out.moves ≡ 0)
ShowsFirstAnswer first_answer.Full newest reply moves out = (out.next ≡ JC_NEXT_FULL) × (out.moves ≡ 0)
ShowsFirstAnswer first_answer.Shut newest reply moves out = (out.next ≡ JC_NEXT_SHUT) × (out.moves ≡ 0)
ShowsFirstAnswer first_answer.Misuse newest reply moves out = ⊥

abbrev pub ShowsPickUp : PickUpAnswer → Reply → PhaseOut → Type 0
ShowsPickUp (pick_up_answer.Answer place shared_with) reply out = (out.next ≡ JC_NEXT_DONE) × (out.place ≡ place)
    × (out.moves ≡ 0) × ShowsReply reply out.reply out.code out.value
ShowsPickUp pick_up_answer.Again reply out = (out.next ≡ JC_NEXT_AGAIN) × (out.moves ≡ 0)
ShowsPickUp pick_up_answer.NotYet reply out = (out.next ≡ JC_NEXT_NOT_YET) × (out.moves ≡ 0)
ShowsPickUp pick_up_answer.Misuse reply out = ⊥

-- What is no call's step.

pub record ShowsGone (next : ℕ) (moves : MovesMade) (out : PhaseOut) : Type 0 where
  pub next_is : out.next ≡ next
  pub moves_are : ShowsMoves moves out.moves out.left out.victim out.evicted

abbrev pub shut_number : Bool → ℕ
shut_number shut = if shut then JC_NEXT_SHUT else JC_NEXT_DONE

abbrev pub sweep_number : SweepAnswer → ℕ
sweep_number sweep_answers.Open = JC_NEXT_DONE
sweep_number sweep_answers.Evicted = JC_NEXT_SHUT
sweep_number sweep_answers.Full = JC_NEXT_FULL
sweep_number sweep_answers.NoPlace = JC_NEXT_NOT_YET

-- What stays.

abbrev pub KeepsBesideValue : Option Bytes → InlineValue → InlineValue → Type 0
KeepsBesideValue None old new = new ≡ old
KeepsBesideValue (Some value) old new = StaysBehindValue old new

abbrev pub KeepsBesideVictim : Option (Bytes × Bytes) → InlineKey → InlineKey → InlineValue → InlineValue → Type 0
KeepsBesideVictim None old_victim new_victim old new = (new_victim ≡ old_victim) × (new ≡ old)
KeepsBesideVictim (Some gone) old_victim new_victim old new = StaysBehindKey old_victim new_victim × StaysBehindValue old new

abbrev pub KeepsBesideReply : Reply → ℕ → ℕ → InlineValue → InlineValue → Type 0
KeepsBesideReply reply.Unit old_code code old new = (code ≡ old_code) × (new ≡ old)
KeepsBesideReply (reply.Flag flag) old_code code old new = (code ≡ old_code) × (new ≡ old)
KeepsBesideReply (reply.Value value) old_code code old new = (code ≡ old_code) × KeepsBesideValue value old new
KeepsBesideReply (reply.Fault fault) old_code code old new = new ≡ old

pub record KeepsBesideDone (reply : Reply) (moves : MovesMade) (old new : PhaseOut) : Type 0 where
  pub number_stays : new.number ≡ old.number
  pub reply_stays : KeepsBesideReply reply old.code new.code old.value new.value
  pub left_stays : KeepsBesideValue moves.left old.left new.left
  pub victim_stays : KeepsBesideVictim moves.victim old.victim new.victim old.evicted new.evicted

pub record KeepsBesideGone (moves : MovesMade) (old new : PhaseOut) : Type 0 where
  pub rest_stays : new ≡ record old {
    next = new.next;
    moves = new.moves;
    left = new.left;
    victim = new.victim;
    evicted = new.evicted;
  }
  pub left_stays : KeepsBesideValue moves.left old.left new.left
  pub victim_stays : KeepsBesideVictim moves.victim old.victim new.victim old.evicted new.evicted

abbrev pub KeepsBesideFirst : First → ℕ → ℕ → ℕ → ℕ → InlineValue → InlineValue → Type 0
KeepsBesideFirst first.Nobody old_number number old_code code old new =
    (number ≡ old_number) × (code ≡ old_code) × (new ≡ old)
KeepsBesideFirst first.Loader old_number number old_code code old new =
    (number ≡ old_number) × (code ≡ old_code) × (new ≡ old)
KeepsBesideFirst (first.Writer (change.Write v)) old_number number old_code code old new =
    (number ≡ old_number) × (code ≡ old_code) × StaysBehindValue old new
KeepsBesideFirst (first.Writer change.Delete) old_number number old_code code old new =
    (number ≡ old_number) × (code ≡ old_code) × (new ≡ old)
KeepsBesideFirst (first.Processor entry may_load) old_number number old_code code old new = KeepsBesideValue entry old new

abbrev pub KeepsBesideReservation : Option Reservation → PhaseOut → PhaseOut → Type 0
KeepsBesideReservation None old new = Unit {0}
KeepsBesideReservation (Some r) old new = KeepsBesideFirst r.first old.reply new.reply old.code new.code old.value new.value

abbrev pub KeepsBesideAnswer : FirstAnswer → Option Reservation → Reply → MovesMade → PhaseOut → PhaseOut → Type 0
KeepsBesideAnswer (first_answer.Done place) newest reply moves old new = KeepsBesideDone reply moves old new
KeepsBesideAnswer (first_answer.Asks number) newest reply moves old new =
    KeepsBesideReservation newest old new × (new.place ≡ old.place) × (new.shared ≡ old.shared)
    × (new.left ≡ old.left) × (new.victim ≡ old.victim) × (new.evicted ≡ old.evicted)
KeepsBesideAnswer (first_answer.Joined load) newest reply moves old new =
    new ≡ record old { next = new.next; number = new.number; moves = new.moves }
KeepsBesideAnswer (first_answer.Refused refusal) newest reply moves old new =
    new ≡ record old { next = new.next; reply = new.reply; moves = new.moves }
KeepsBesideAnswer first_answer.Full newest reply moves old new = new ≡ record old { next = new.next; moves = new.moves }
KeepsBesideAnswer first_answer.Shut newest reply moves old new = new ≡ record old { next = new.next; moves = new.moves }
KeepsBesideAnswer first_answer.Misuse newest reply moves old new = Unit {0}

abbrev pub KeepsBesidePickUp : PickUpAnswer → Reply → PhaseOut → PhaseOut → Type 0
KeepsBesidePickUp (pick_up_answer.Answer place shared_with) reply old new =
    KeepsBesideReply reply old.code new.code old.value new.value
    × (new ≡ record old {
      next = new.next;
      reply = new.reply;
      code = new.code;
      place = new.place;
      moves = new.moves;
      value = new.value;
    })
KeepsBesidePickUp pick_up_answer.Again reply old new = new ≡ record old { next = new.next; moves = new.moves }
KeepsBesidePickUp pick_up_answer.NotYet reply old new = new ≡ record old { next = new.next; moves = new.moves }
KeepsBesidePickUp pick_up_answer.Misuse reply old new = Unit {0}
