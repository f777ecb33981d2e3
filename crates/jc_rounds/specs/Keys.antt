-- The state of one key of a call with many keys, by what its session has seen of the key's stripe.
--     MadeOn        the entry of a step's key, in the state in which the step was made, fits this condition
--     IsStepTold    the outside answers of a step: no round asked for the key, and the entry asks nobody; or a round asked
--                   whoever the entry makes the call ask, and this was the answer; or the step shares another call's load, and no
--                   round asked for the key
--     HasOneStep    the call has exactly one step at this key, with this operation and reply and with outside answers that it was
--                   given; the step is in the front, which is the whole history of the noted state, behind the former front
--     WasRefused    the seat has found the stripe, between these views, in a state in which the call might begin at this key and
--                   this was its first refusal, and has left it so
--     TakesMemory   a later round of a call with this operation takes memory after one that has asked, in a cache of this shape:
--                   the operation may write through
--     EndsKey       the end of a key: the call has made its one step there; or the key was refused, has no step, and no round
--                   asked for it. A failed allocation comes only after a round that asked, in a call whose later rounds take
--                   memory
--     IsAt          the key is in this state: it has no step of the call yet, or has ended
--     IsEarly       the call's number isn't the last one
--     IsTicketFor   a reservation of the call for this key, which asks whoever the operation asks first, in a cache of this shape
--     IsJoinFor     a join of the call, a `Get`, at this key: a step of the call at the key may come after the former front
--     HasJoined     the seat has found the stripe, between these views, in a state in which the call might begin at this key, and
--                   has left it with one more join, of the call to another call's load
--     IsHeldBack    between these views the key was put off, or has joined a load
--     HasBegun      the state of the key after a first phase; a refusal is that of the state that the view notes
--     IsCommitted   the effect of a commit: the call's one step at the key of its reservation, with these outside answers; the
--                   entry that the key had makes the operation ask first whoever the reservation asked
--     IsPickedUp    a pick-up that wasn't too early
--     HasPicked     the state of the key after a pick-up
use Rattle.std.specs.List.{IsAmong}
use Rattle.std.specs.Prelude.{◌≡◌, ◌≤◌, ◌⊎◌, ℕ, List, [], ◌∷◌, length, Bool, true, false, Option, None, Some, Result, Ok, Err}
use Rattle.std.specs.Prelude.{slice_get, nat_lt}
use mathlib.Core.List.{IsPrefix}
use Rattle.jc_types.specs.declared.caller.Caller.{Caller}
use Rattle.jc_types.specs.declared.config.Config.{Config}
use Rattle.jc_types.specs.Refusals.{is_put_off}
use Rattle.jc_types.specs.declared.refusal.Refusal.{Refusal}
use Rattle.jc_types.specs.declared.refusal.Refusal.TheVariants.{HistoryFull, OutOfMemory}
use Rattle.jc_model.specs.Batches.{is_among}
use Rattle.jc_model.specs.Cache.{Bytes, entry_at}
use Rattle.jc_model.specs.Group.{nothing_said}
use Rattle.jc_model.specs.declared.event.Event.TheVariants.{Step}
use Rattle.jc_model.specs.declared.event.Op.{Op}
use Rattle.jc_model.specs.declared.event.Op.TheVariants.{Clear, Get, LoadAll}
use Rattle.jc_model.specs.declared.event.Out.{Out}
use Rattle.jc_model.specs.declared.event.Reply.{Reply}
use Rattle.jc_stripe.specs.State.{State}
use Rattle.jc_stripe.specs.Generations.{whole_history, IsOfSameStripe}
use Rattle.jc_stripe.specs.Reached.{IsReached}
use Rattle.jc_stripe.specs.Refusals.{first_asked, first_refusal, last_number, load_joined, reserves}
use Rattle.jc_stripe.specs.OwnSteps.{may_come_all}
use Rattle.jc_stripe.specs.Phases.{MayBegin, with_joiner}
use Rattle.jc_stripe.specs.Tickets.{JoinClaim}
use Rattle.jc_stripe.specs.declared.ticket.First.TheVariants.{Nobody}
use Rattle.jc_stripe.specs.declared.ticket.Reservation.{Reservation}
use Rattle.jc_stripe.specs.Outcomes.{Begun}
use Rattle.jc_stripe.specs.Polled.{Polled}
use Rattle.jc_stripe.specs.Outcomes as begun
use Rattle.jc_stripe.specs.Polled as polled
use Rattle.jc_lock.specs.declared.view.View.{View}
use Rattle.jc_engine.specs.MadeIn.{IsNext}
use Rattle.jc_cache.specs.Fronts.{HasAllSeen}
use Rattle.jc_rounds.specs.declared.progress.KeyProgress.{KeyProgress}
use Rattle.jc_rounds.specs.declared.progress.KeyProgress.TheVariants.{Waiting, Reserved, Joined, Ended}
use Rattle.jc_rounds.specs.Recorded.{steps_of}
use Rattle.jc_rounds.specs.Seats.{HasFound}
use Rattle.jc_rounds.specs.Rounds.{Round, IsAnswer, asked_in, keys_asked}

-- 1. Ends. `before` is the view from before the call.

pub record MadeOn (after : View) (key : Bytes) (place : ℕ) (Entry : Option Bytes → Type 0) : Type 0 where
  pub decided : State
  pub reached : IsReached decided
  pub later : IsPrefix (whole_history decided) after.front
  pub same : IsOfSameStripe decided after.noted
  pub next : IsNext decided key place after.front
  pub entry : Entry (entry_at decided.cache key)

abbrev pub IsStepTold : Config → List Round → View → Bytes → Op → ℕ → Option ℕ → Out → Type 0
IsStepTold config rounds after key op place None out =
    ((is_among (asked_in rounds) key ≡ false) × (out ≡ nothing_said)
    × MadeOn after key place (λ entry. first_asked config op entry ≡ Nobody))
    ⊎ ((round : Round) × IsAmong rounds round × (is_among (keys_asked round) key ≡ true)
    × MadeOn after key place (λ entry. IsAnswer config round key (first_asked config op entry) out))
IsStepTold config rounds after key op place (Some load) out = (is_among (asked_in rounds) key ≡ false) × (op ≡ Get)

pub record HasOneStep (config : Config) (caller : Caller) (rounds : List Round) (before after : View) (key : Bytes) (op : Op)
    (reply : Reply) : Type 0 where
  pub out : Out
  pub shared_with : Option ℕ
  pub place : ℕ
  pub told : IsStepTold config rounds after key op place shared_with out
  pub one : steps_of caller key after.own ≡ Step caller op key out shared_with reply ∷ []
  pub all : HasAllSeen after
  pub there : slice_get after.front place ≡ Some (Step caller op key out shared_with reply)
  pub behind : length before.front ≤ place

pub record WasRefused (caller : Caller) (before after : View) (key : Bytes) (op : Op) (refusal : Refusal) : Type 0 where
  pub seen : State
  pub reached : IsReached seen
  pub since : IsPrefix before.front (whole_history seen)
  pub later : IsPrefix (whole_history seen) after.front
  pub next : seen.next ≤ after.noted.next
  pub same : IsOfSameStripe seen after.noted
  pub found : HasFound before seen seen after
  pub may : MayBegin seen caller key
  pub why : first_refusal seen caller key op ≡ Some refusal

pub record TakesMemory (config : Config) (op : Op) : Type 0 where
  pub through : config.write_through ≡ true
  pub not_get : op ≡ Get → ⊥
  pub not_load : (replace : Bool) → op ≡ LoadAll replace → ⊥
  pub not_clear : op ≡ Clear → ⊥

abbrev pub EndsKey : Config → Caller → List Round → View → View → Bytes → Op → Result Reply Refusal → Type 0
EndsKey config caller rounds before after key op (Ok reply) = HasOneStep config caller rounds before after key op reply
EndsKey config caller rounds before after key op (Err refusal) =
    (steps_of caller key after.own ≡ []) × (is_among (asked_in rounds) key ≡ false)
    × ((refusal ≡ OutOfMemory) × (rounds ≡ [] → ⊥) × TakesMemory config op
    ⊎ ((refusal ≡ HistoryFull) × WasRefused caller before after key op refusal))

-- 2. On the way.

abbrev pub IsAt : Config → Caller → List Round → View → View → Bytes → Op → KeyProgress → Type 0
IsAt config caller rounds before after key op Waiting = steps_of caller key after.own ≡ []
IsAt config caller rounds before after key op Reserved = steps_of caller key after.own ≡ []
IsAt config caller rounds before after key op Joined = steps_of caller key after.own ≡ []
IsAt config caller rounds before after key op (Ended ended) = EndsKey config caller rounds before after key op ended

abbrev pub IsEarly : Caller → Type 0
IsEarly caller = nat_lt caller.call last_number ≡ true

pub record IsTicketFor (caller : Caller) (config : Config) (key : Bytes) (op : Op) (r : Reservation) : Type 0 where
  pub caller_is : r.caller ≡ caller
  pub key_is : r.key ≡ key
  pub op_is : r.op ≡ op
  pub entry : Option Bytes
  pub first_is : r.first ≡ first_asked config op entry
  pub asks : reserves r.first ≡ true
  pub early : IsEarly caller

pub record IsJoinFor (caller : Caller) (before : View) (key : Bytes) (op : Op) (join : JoinClaim) : Type 0 where
  pub caller_is : join.caller ≡ caller
  pub key_is : join.key ≡ key
  pub op_is : op ≡ Get
  pub early : IsEarly caller
  pub fresh : may_come_all before.front caller key ≡ true

pub record HasJoined (caller : Caller) (before after : View) (key : Bytes) (op : Op) : Type 0 where
  pub seen : State
  pub reached : IsReached seen
  pub since : IsPrefix before.front (whole_history seen)
  pub later : IsPrefix (whole_history seen) after.front
  pub same : IsOfSameStripe seen after.noted
  pub load : ℕ
  pub found : HasFound before seen (with_joiner seen (record { caller = caller; key = key; load = load })) after
  pub may : MayBegin seen caller key
  pub why : load_joined seen key op ≡ Some load

abbrev pub IsHeldBack : Caller → View → View → Bytes → Op → Type 0
IsHeldBack caller before after key op =
    ((refusal : Refusal) × (is_put_off refusal ≡ true) × WasRefused caller before after key op refusal)
    ⊎ HasJoined caller before after key op

-- 3. Phases. `before` is the view from before the phase.

abbrev pub HasBegun : Caller → Config → View → View → Bytes → Op → Begun → Type 0
HasBegun caller config before after key op (begun.Done done) = HasOneStep config caller [] before after key op done.reply
HasBegun caller config before after key op (begun.Refused refusal) =
    (steps_of caller key after.own ≡ []) × ((is_put_off refusal ≡ true) ⊎ (refusal ≡ HistoryFull))
    × (first_refusal after.noted caller key op ≡ Some refusal) × WasRefused caller before after key op refusal
HasBegun caller config before after key op (begun.Asks ticket) =
    (steps_of caller key after.own ≡ []) × (ticket.asked ≡ false) × (ticket.writer_asked ≡ false)
    × IsTicketFor caller config key op ticket.reservation
HasBegun caller config before after key op (begun.Joined join) =
    (steps_of caller key after.own ≡ []) × IsJoinFor caller before key op join × HasJoined caller before after key op

-- the step of a commit, with what was answered outside
pub record IsCommitted (config : Config) (caller : Caller) (r : Reservation) (out : Out) (before after : View)
    (reply : Reply) : Type 0 where
  pub place : ℕ
  pub one : steps_of caller r.key after.own ≡ Step caller r.op r.key out None reply ∷ []
  pub all : HasAllSeen after
  pub there : slice_get after.front place ≡ Some (Step caller r.op r.key out None reply)
  pub behind : length before.front ≤ place
  pub made : MadeOn after r.key place (λ entry. first_asked config r.op entry ≡ r.first)

-- `first` is the view from before the call
abbrev pub HasPicked : Config → Caller → View → View → Bytes → Op → Polled → Type 0
HasPicked config caller first after key op (polled.Answer reply place shared_with) =
    HasOneStep config caller [] first after key op reply
HasPicked config caller first after key op polled.Again = steps_of caller key after.own ≡ []
HasPicked config caller first after key op (polled.NotYet join) = ⊥

abbrev pub IsPickedUp : Polled → Type 0
IsPickedUp (polled.Answer reply place shared_with) = Unit {0}
IsPickedUp polled.Again = Unit {0}
IsPickedUp (polled.NotYet join) = ⊥
