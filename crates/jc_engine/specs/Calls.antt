-- Whole calls of an agent on one key, over any gate.
--     MayCallHere     an agent may make its current call at a key: it has nothing out; each state in which a take may find the
--                     stripe is live, and the session's own steps there allow the call; if write-through is on there, the agent
--                     has a writer
--     MayCallAt       as `MayCallHere`, for an access
--     MayEnd          an agent may ask outside for a ticket and commit its call: the ticket has asked nobody and is of the
--                     agent's session; each state in which a take may find the stripe is live; if the writer is asked first, the
--                     agent has one
--     Enters          a call up to the point at which it is done, refused, or needs an outside answer: a row of lendings
--     AsksAndEnds     a call from that point on: the loader or the writer is asked, and then the step is committed
--     IsCall          a whole call
--     IsInvocation    a whole call that runs a processor, whose type stays the same
--     IsBusy          a call that never waits wasn't made: somebody else had the stripe, or the call couldn't be made there
--                     without waiting or asking; if a generation stood in the way, there was one more try
--     TriesTo         the first phase of such a call, at the first try, or at the second if a generation stood in the way of the
--                     first
--     IsTried         such a call: it is done at once or refused in the one state that it found, or it is refused as `Busy`
use Rattle.std.specs.declared.dyn_box.DynBox.{DynBox}
use Rattle.std.specs.Prelude.{◌≡◌, ◌⊎◌, ℕ, List, true, false, Option, Result, Ok, Err, IsSome}
use Rattle.jc_types.specs.declared.caller.Caller.{Caller}
use Rattle.jc_types.specs.declared.refusal.Refusal.{Refusal}
use Rattle.jc_types.specs.declared.refusal.Refusal.TheVariants.{Busy}
use Rattle.jc_model.specs.Cache.{Bytes}
use Rattle.jc_model.specs.declared.event.Op.{Op}
use Rattle.jc_model.specs.declared.event.Op.TheVariants.{Invoke}
use Rattle.jc_model.specs.declared.event.Out.{Out}
use Rattle.jc_model.specs.declared.event.Change.{Change}
use Rattle.jc_model.specs.declared.event.ProcessAnswer.TheVariants.{NotAsked}
use Rattle.jc_model.specs.declared.event.Reply.{Reply}
use Rattle.jc_outside.specs.Calling.{LoadRelation, WriteRelation}
use Rattle.jc_outside.specs.declared.done.Origin.TheVariants.{Live}
use Rattle.jc_mutentry.specs.Running.{ProcessRelation}
use Rattle.jc_stripe.specs.State.{State}
use Rattle.jc_stripe.specs.Outcomes.{StepDone, Begun}
use Rattle.jc_stripe.specs.Outcomes as begun
use Rattle.jc_stripe.specs.Tickets.{TicketClaim, asks_writer, change_asked}
use Rattle.jc_stripe.specs.declared.ticket.Reservation.{Reservation}
use Rattle.jc_session.specs.Boxed.{boxed}
use Rattle.jc_session.specs.Counting.{counts_ended}
use Rattle.jc_session.specs.declared.agent.Agent.{Agent}
use Rattle.jc_engine.specs.declared.access.Access.{Access}
use Rattle.jc_engine.specs.Entering.{EntersBy}
use Rattle.jc_engine.specs.Rows.{LentPhase, Row}
use Rattle.jc_engine.specs.Doors.{HasTried, IsAgain}
use Rattle.jc_engine.specs.Needs.{BeginsIfClear}
use Rattle.jc_engine.specs.Turns.{IsCallRow, StartWaits, committing, state_found, trying}
use Rattle.jc_engine.specs.declared.first.How.TheVariants.{Alone}
use Rattle.jc_engine.specs.Asking.{AsksLoader, AsksWriter, KeepsTypes, RunsProcessor, change_wanted, own_after}

-- 0. Who may call.

pub record MayCallHere {I J : Type 0} {D : I → Type 0} {E : J → Type 0} (finds : State → Type 0) (key : Bytes)
    (agent : Agent I J D E) : Type 0 where
  pub reservations : agent.counts.reservations ≡ 0
  pub joins : agent.counts.joins ≡ 0
  pub begins : (a : State) → finds a → BeginsIfClear agent.caller key a
  pub writes : (a : State) → finds a → a.config.write_through ≡ true → IsSome agent.hands.outside.writer

module _ {G T I J : Type 0} {D : I → Type 0} {E : J → Type 0} (finds : G → T → State → Type 0) where
  abbrev pub MayCallAt : Bytes → Access G T I J D E → Type 0
  MayCallAt key access = MayCallHere (finds access.gate.now access.token.now) key access.agent.now

  pub record MayEnd (ticket : TicketClaim) (access : Access G T I J D E) : Type 0 where
    pub unasked : ticket.asked ≡ false
    pub who : ticket.reservation.caller.session ≡ access.agent.now.caller.session
    pub live : (a : State) → finds access.gate.now access.token.now a → a.origin ≡ Live
    pub writes : asks_writer ticket.reservation.first ≡ true → IsSome access.agent.now.hands.outside.writer

-- 1. Up to where it is done, refused, or has somebody to ask, and from there on.

pub record Enters {G T : Type 0} (takes gives : G → T → State → G → T → Type 0) (finds : G → T → State → Type 0) (caller : Caller)
    (key : Bytes) (op : Op) (g : G) (t : T) (result : Result (Option TicketClaim) Refusal) (reply : Reply) (h : G)
    (u : T) : Type 0 where
  pub row : List (State × State)
  pub lent : Row takes gives finds caller.session g t row h u
  pub did : EntersBy caller key op result reply row

pub record AsksAndEnds
    {I J G T : Type 0} {D : I → Type 0} {E : J → Type 0}
    (loads : LoadRelation ((i : I) × D i)) (load_state : (i : I) × D i → List ℕ)
    (writes : WriteRelation ((j : J) × E j)) (write_state : (j : J) × E j → List ℕ)
    (takes gives : G → T → State → G → T → Type 0) (finds : G → T → State → Type 0)
    (r : Reservation) (old : Agent I J D E) (g : G) (t : T) (reply : Reply) (new : Agent I J D E) (h : G) (u : T) : Type 0 where
  pub asked : Agent I J D E
  pub out : Out
  pub done : StepDone
  pub replies : done.reply ≡ reply
  pub loader : AsksLoader (boxed loads) (boxed load_state) old.hands.outside.loader r.key out.load asked.hands.outside.loader
  pub writer : (wanted : Option Change) → (asks_writer r.first ≡ true → wanted ≡ change_asked r.first)
      → AsksWriter (boxed writes) (boxed write_state) old.hands.outside.writer r.key wanted out.write asked.hands.outside.writer
  pub process : out.process ≡ NotAsked
  pub types : KeepsTypes old asked
  pub held : asked.hands.held ≡ 0
  pub rest : asked ≡ record old { hands = asked.hands }
  pub last : new ≡ record asked { counts = counts_ended asked.counts }
  pub phase : LentPhase takes gives finds old.caller.session g t (committing r out done) h u

-- 2. The whole.

pub record IsCall
    {I J G T : Type 0} {D : I → Type 0} {E : J → Type 0}
    (loads : LoadRelation ((i : I) × D i)) (load_state : (i : I) × D i → List ℕ)
    (writes : WriteRelation ((j : J) × E j)) (write_state : (j : J) × E j → List ℕ)
    (takes gives : G → T → State → G → T → Type 0) (finds : G → T → State → Type 0)
    (old : Agent I J D E) (key : Bytes) (op : Op) (g : G) (t : T) (ended : Result Reply Refusal) (new : Agent I J D E) (h : G)
    (u : T) : Type 0 where
  pub row : List (State × State)
  pub lent : Row takes gives finds old.caller.session g t row h u
  pub asked : Out
  pub did : IsCallRow old.caller key op asked ended row
  pub loader : AsksLoader (boxed loads) (boxed load_state) old.hands.outside.loader key asked.load new.hands.outside.loader
  pub writer : AsksWriter (boxed writes) (boxed write_state) old.hands.outside.writer key
      (change_wanted (state_found did) key op asked.process) asked.write new.hands.outside.writer
  pub types : KeepsTypes old new
  pub held : new.hands.held ≡ 0
  pub agent : new ≡ record old { counts = record old.counts { own = own_after old.counts.own ended }; hands = new.hands }

pub record IsInvocation
    {I J P Z G T : Type 0} {D : I → Type 0} {E : J → Type 0} {F : P → Type 0}
    (loads : LoadRelation ((i : I) × D i)) (load_state : (i : I) × D i → List ℕ)
    (writes : WriteRelation ((j : J) × E j)) (write_state : (j : J) × E j → List ℕ)
    (processes : ProcessRelation (DynBox P Z F)) (process_state : DynBox P Z F → List ℕ)
    (takes gives : G → T → State → G → T → Type 0) (finds : G → T → State → Type 0)
    (old : Agent I J D E) (key : Bytes) (args : List Bytes) (processor : DynBox P Z F) (g : G) (t : T)
    (ended : Result Reply Refusal) (new : Agent I J D E) (processor' : DynBox P Z F) (h : G) (u : T) : Type 0 where
  pub call : IsCall loads load_state writes write_state takes gives finds old key Invoke g t ended new h u
  pub run : RunsProcessor processes process_state processor (state_found call.did) key args call.asked processor'
  pub type : processor'.vtable ≡ processor.vtable

-- 3. A call that waits for nobody.

module _ {G T : Type 0} (takes gives : G → T → State → G → T → Type 0) (finds : G → T → State → Type 0)
    (misses : G → T → G → T → Type 0) (caller : Caller) (key : Bytes) (op : Op) where
  abbrev pub IsBusy : G → T → G → T → Type 0
  IsBusy g t h u = HasTried takes gives finds misses caller.session (StartWaits Alone caller key op) g t h u

  pub record TriesTo (g : G) (t : T) (begun : Begun) (h : G) (u : T) : Type 0 where
    pub lent : LentPhase takes gives finds caller.session g t (trying caller key op begun) h u
    pub again : IsAgain lent.did.waits

  abbrev pub IsTried : G → T → Result Reply Refusal → G → T → Type 0
  IsTried g t (Ok reply) h u = (done : StepDone) × (done.reply ≡ reply) × TriesTo g t (begun.Done done) h u
  IsTried g t (Err refusal) h u = TriesTo g t (begun.Refused refusal) h u ⊎ ((refusal ≡ Busy) × IsBusy g t h u)
