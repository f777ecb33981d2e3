-- The calls outside of one round: a processor for each key that it has reserved, and then the writer. No contract of a public
-- function cites this.
--     TakesKey       a round's memory has room for one more run, at this key
--     MayNote        the round may note the change for the writer after this run of this ticket's processor
--     HasNoted       the round has noted the change of this run
--     IsToBeRun      a ticket whose processor is to be run: nobody was asked for it
--     KeepsRunsRoom  there is as much room for runs, and in a cache that doesn't write through the batches are unchanged
--     KeepsProcessing  the same processor and arguments are lent as before
--     IsTicketRun    the processor was run for a ticket, and this is the round's memory after it
--     MayRunEach     the processor may be run for each of these tickets, and then the writer be called: nobody was asked, and the
--                    memory has no runs yet
--     HasRunEach     the processor was run for each of these tickets, and this is the round's memory after it
--     IsRoundAsked   the processor was run for each of these tickets and then the writer was asked: these are the answers
use Rattle.std.specs.declared.dyn_box.DynBox.{DynBox}
use Rattle.std.specs.Prelude.{◌≡◌, ◌==◌, ◌≤◌, ◌<◌, ◌+◌, ◌++◌, ℕ, List, [], ◌∷◌, length, map, Bool, true, false, vec_capacity}
use Rattle.std.specs.Global.{Vec}
use Rattle.std.specs.List.{AllByRecursion, IsDistinct}
use Rattle.std.specs.Cmp.Lexicographic.{pointwise}
use Rattle.jc_types.specs.declared.config.Config.{Config}
use Rattle.jc_model.specs.Batches.{is_among}
use Rattle.jc_model.specs.Cache.{Bytes}
use Rattle.jc_outside.specs.Calling.{KeepsType}
use Rattle.jc_mutentry.specs.Done.{ProcessResult}
use Rattle.jc_stripe.specs.Tickets.{Claim, TicketClaim, asks_processor, claim_of}
use Rattle.jc_session.specs.declared.agent.Agent.{Agent}
use Rattle.jc_engine.specs.Asking.{KeepsTypes}
use Rattle.jc_cache.specs.Caches.{CacheState}
use Rattle.jc_cache.specs.Sessions.{IsOf}
use Rattle.jc_session.specs.declared.session.Session.{Session}
use Rattle.jc_rounds.specs.declared.answers.RoundAnswers.{RoundAnswers}
use Rattle.jc_rounds.specs.Answers.{AreAnswers, RunState, claims_after, done_of, key_run, reservations_of}
use Rattle.jc_rounds.specs.Asking.{reserved_keys}
use Rattle.jc_rounds.specs.OutsideCalls.{asked_keys}
use Rattle.jc_rounds.specs.Rounds.{ProcessAll, ProcessRound}
use Rattle.jc_rounds.specs.Underway.{reserved_by}
use Rattle.jc_invoke.specs.declared.room.RoundRoom.{RoundRoom}
use Rattle.jc_invoke.specs.declared.run.Processing.{Processing}
use Rattle.jc_invoke.specs.RoundRooms.{IsRoundRoomFor}
use Rattle.jc_invoke.specs.Runs.{CallsRound, RunBehavior, RunsEach, RunsOne, in_boxes}

-- 1. One ticket. `room'` is the room after it.

pub record TakesKey (room : RoundRoom) (key : Bytes) : Type 0 where
  pub writes_kind : room.writes.deletes ≡ false
  pub deletes_kind : room.deletes.deletes ≡ true
  pub runs_room : length room.runs.items < vec_capacity room.runs
  pub writes_room : 0 < room.writes.room
  pub deletes_room : 0 < room.deletes.room
  pub writes_new : is_among (asked_keys room.writes.items) key ≡ false
  pub deletes_new : is_among (asked_keys room.deletes.items) key ≡ false

pub record MayNote (room : RoundRoom) (ticket : TicketClaim) (done : ProcessResult Claim) : Type 0 where
  pub takes : TakesKey room ticket.reservation.key
  pub asked : ticket.asked ≡ true
  pub once : ticket.writer_asked ≡ false
  pub claim : done.ask ≡ claim_of ticket.reservation

pub record HasNoted (run : RunState) (room room' : RoundRoom) : Type 0 where
  pub through_is : room'.through ≡ room.through
  pub runs_room : vec_capacity room'.runs ≡ vec_capacity room.runs
  pub writes_kind : room'.writes.deletes ≡ room.writes.deletes
  pub deletes_kind : room'.deletes.deletes ≡ room.deletes.deletes
  pub writes_are : room'.writes.items ≡ room.writes.items ++ claims_after room.through false (run ∷ [])
  pub deletes_are : room'.deletes.items ≡ room.deletes.items ++ claims_after room.through true (run ∷ [])
  pub writes_room : room.writes.room ≤ room'.writes.room + 1
  pub deletes_room : room.deletes.room ≤ room'.deletes.room + 1

pub record KeepsRunsRoom (room room' : RoundRoom) : Type 0 where
  pub through_is : room'.through ≡ room.through
  pub runs_room : vec_capacity room'.runs ≡ vec_capacity room.runs
  pub quiet : room.through ≡ false → (room'.writes ≡ room.writes) × (room'.deletes ≡ room.deletes)

abbrev pub KeepsProcessing : {P : Type 0} {F : P → Type 0} → Processing P F → Processing P F → Type 0
KeepsProcessing old new = (new.processor.ghost_name ≡ old.processor.ghost_name) × (new.args ≡ old.args)

abbrev pub IsToBeRun : TicketClaim → Type 0
IsToBeRun ticket = (ticket.asked ≡ false) × (ticket.writer_asked ≡ false) × (asks_processor ticket.reservation.first ≡ true)

pub record IsTicketRun
    {I J P Z : Type 0} {D : I → Type 0} {E : J → Type 0} {F : P → Type 0}
    (behavior : RunBehavior ((i : I) × D i) ((j : J) × E j) (DynBox P Z F)) (args : List Bytes)
    (old : Agent I J D E) (ticket : TicketClaim) (room : RoundRoom) (processor : DynBox P Z F)
    (new : Agent I J D E) (ticket' : TicketClaim) (room' : RoundRoom) (processor' : DynBox P Z F) : Type 0 where
  pub run : RunState
  pub reservation : run.reservation ≡ ticket.reservation
  pub kept : ticket'.reservation ≡ ticket.reservation
  pub one : RunsOne (in_boxes behavior) args processor old.hands.outside.loader (key_run run) processor' new.hands.outside.loader
  pub done_is : room'.runs.items ≡ room.runs.items ++ done_of run ∷ []
  pub noted : HasNoted run room room'
  pub loader_type : KeepsType old.hands.outside.loader new.hands.outside.loader
  pub writer : new.hands.outside.writer ≡ old.hands.outside.writer
  pub processor_type : processor'.vtable ≡ processor.vtable

-- 2. All tickets.

pub record MayRunEach {I J : Type 0} {D : I → Type 0} {E : J → Type 0} (session : Session I J D E) (tickets : Vec TicketClaim)
    (room : RoundRoom) : Type 0 where
  pub cache : CacheState
  pub own : IsOf cache session
  pub fresh : AllByRecursion IsToBeRun tickets.items
  pub distinct : IsDistinct (pointwise ◌==◌) (reserved_keys (map reserved_by tickets.items))
  pub most : ℕ
  pub few : length tickets.items ≤ most
  pub room_is : IsRoundRoomFor most cache.config.write_through room

pub record HasRunEach
    {I J P Z : Type 0} {D : I → Type 0} {E : J → Type 0} {F : P → Type 0}
    (behavior : RunBehavior ((i : I) × D i) ((j : J) × E j) (DynBox P Z F)) (args : List Bytes) (through : Bool)
    (old : Agent I J D E) (calls : List TicketClaim) (processor : DynBox P Z F)
    (new : Agent I J D E) (room' : RoundRoom) (processor' : DynBox P Z F) : Type 0 where
  pub runs : List RunState
  pub calls_are : reservations_of runs ≡ map reserved_by calls
  pub each : RunsEach (in_boxes behavior) args processor old.hands.outside.loader (map key_run runs) processor'
      new.hands.outside.loader
  pub done_are : room'.runs.items ≡ map done_of runs
  pub writes_are : room'.writes.items ≡ claims_after through false runs
  pub deletes_are : room'.deletes.items ≡ claims_after through true runs
  pub writes_kind : room'.writes.deletes ≡ false
  pub deletes_kind : room'.deletes.deletes ≡ true
  pub loader_type : KeepsType old.hands.outside.loader new.hands.outside.loader
  pub writer : new.hands.outside.writer ≡ old.hands.outside.writer
  pub processor_type : processor'.vtable ≡ processor.vtable

pub record IsRoundAsked
    {I J P Z : Type 0} {D : I → Type 0} {E : J → Type 0} {F : P → Type 0}
    (behavior : RunBehavior ((i : I) × D i) ((j : J) × E j) (DynBox P Z F)) (args : List Bytes) (through : Bool)
    (old : Agent I J D E) (calls : List TicketClaim) (processor : DynBox P Z F)
    (new : Agent I J D E) (answers : RoundAnswers) (processor' : DynBox P Z F) : Type 0 where
  pub round : ProcessRound
  pub runs : List RunState
  pub calls_are : reservations_of runs ≡ map reserved_by calls
  pub runs_are : round.runs ≡ map key_run runs
  pub answered : (config : Config) → config.write_through ≡ through
      → AreAnswers config (ProcessAll round) answers (map reserved_by calls)
  pub asked : CallsRound (in_boxes behavior) args through
      processor old.hands.outside.loader old.hands.outside.writer round processor' new.hands.outside.loader new.hands.outside.writer
  pub types : KeepsTypes old new
  pub processor_type : processor'.vtable ≡ processor.vtable
