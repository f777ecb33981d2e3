-- What a whole call asks its session's loader and writer, and how often.
--     change_wanted    the change of the store that the writer table wants after this answer of a processor, with write-through
--                      on
--     AsksLoader       the loader's part in a step's outside answers: it was called once, with this key, and answered this; or it
--                      is untouched
--     AsksWriter       as `AsksLoader`, for the writer and the change that was asked for
--     KeepsTypes       the agent's loader and writer have the same types as before
--     WritesEffect     the writer was called once for the change of a processor's run, if there is one and it is to be written;
--                      the rest of the agent is unchanged
--     IsProcessed      a ticket's processor was run once, on the entry that the ticket's first phase found, and the writer was
--                      called for its net effect, if that is to be written; the rest of the agent is unchanged
--     own_after        the number of steps that the agent has made, after a call
--     RunsProcessor    the processor's part in a step's outside answers: it was run once, on the entry that the step found, and
--                      answered this; with read-through on, it might load a missing entry. Or it is untouched
use Rattle.std.specs.declared.dyn_box.DynBox.{DynBox}
use Rattle.std.specs.Prelude.{◌≡◌, ◌&&◌, ℕ, List, Bool, true, Option, None, Result, Ok, Err, is_none, is_some, MatchBool}
use Rattle.std.specs.Prelude.{if◌then◌else◌}
use Rattle.jc_types.specs.declared.refusal.Refusal.{Refusal}
use Rattle.jc_model.specs.declared.event.Op.{Op}
use Rattle.jc_model.specs.declared.event.Out.{Out}
use Rattle.jc_model.specs.declared.event.Reply.{Reply}
use Rattle.jc_model.specs.declared.event.Change.{Change}
use Rattle.jc_model.specs.declared.event.LoadAnswer.{LoadAnswer}
use Rattle.jc_model.specs.declared.event.ProcessAnswer.{ProcessAnswer}
use Rattle.jc_model.specs.declared.event.WriteAnswer.{WriteAnswer}
use Rattle.jc_model.specs.Cache.{Bytes, entry_at}
use Rattle.jc_types.specs.declared.config.Config.{Config}
use Rattle.jc_model.specs.Table.{write_ask, process_ask, is_load_given, is_write_given, is_process_given}
use Rattle.jc_outside.specs.Calling.{KeepsType, LoadRelation, LoadsOnce, WriteRelation, WritesOnce}
use Rattle.jc_outside.specs.Done.{WriteResult}
use Rattle.jc_outside.specs.declared.done.Origin.TheVariants.{Live}
use Rattle.jc_mutentry.specs.Done.{ProcessResult, effect_change}
use Rattle.jc_mutentry.specs.Running.{ProcessRelation, RunsOnce}
use Rattle.jc_stripe.specs.Effects.{HasReport, report_answer}
use Rattle.jc_stripe.specs.State.{State}
use Rattle.jc_stripe.specs.Tickets.{Claim, TicketClaim, entry_seen, is_loadable}
use Rattle.jc_session.specs.Boxed.{boxed}
use Rattle.jc_session.specs.Counting.{one_more}
use Rattle.jc_session.specs.declared.agent.Agent.{Agent}
use Rattle.jc_engine.specs.Answered.{Processed, IsAnswered}
use Rattle.jc_engine.specs.Needs.{IsReported}

abbrev pub change_wanted : State → Bytes → Op → ProcessAnswer → Option Change
change_wanted state key op answer = if state.config.write_through then write_ask op (entry_at state.cache key) answer else None

abbrev pub AsksLoader : {L : Type 0} → LoadRelation L → (L → List ℕ) → Option L → Bytes → LoadAnswer → Option L → Type 0
AsksLoader loads state old key answer new = MatchBool (is_load_given answer) (LoadsOnce loads state old key answer new) (new ≡ old)

abbrev pub AsksWriter : {W : Type 0} → WriteRelation W → (W → List ℕ) → Option W → Bytes → Option Change → WriteAnswer
    → Option W → Type 0
AsksWriter writes state old key change answer new =
    MatchBool (is_write_given answer) (WritesOnce writes state old key change answer new) (new ≡ old)

-- so what their traits say of a second call is said of the same types
abbrev pub KeepsTypes : {I J : Type 0} {D : I → Type 0} {E : J → Type 0} → Agent I J D E → Agent I J D E → Type 0
KeepsTypes old new =
    KeepsType old.hands.outside.loader new.hands.outside.loader × KeepsType old.hands.outside.writer new.hands.outside.writer

pub record WritesEffect
    {I J : Type 0} {D : I → Type 0} {E : J → Type 0} (writes : WriteRelation ((j : J) × E j)) (write_state : (j : J) × E j → List ℕ)
    (write_through : Bool) (old : Agent I J D E) (ticket : TicketClaim) (done : ProcessResult Claim)
    (result : Option (WriteResult Claim)) (new : Agent I J D E) (ticket' : TicketClaim) : Type 0 where
  pub report : HasReport Live ticket.reservation (if write_through then effect_change done.load done.process else None) result
  pub writer : AsksWriter (boxed writes) (boxed write_state) old.hands.outside.writer ticket.reservation.key
      (if write_through then process_ask done.process else None) (report_answer result) new.hands.outside.writer
  pub types : KeepsTypes old new
  pub ticket_is : ticket' ≡ record ticket { writer_asked = is_some result }
  pub loader : new.hands.outside.loader ≡ old.hands.outside.loader
  pub held : new.hands.held ≡ 0
  pub rest : new ≡ record old { hands = new.hands }

pub record IsProcessed
    {I J P Z : Type 0} {D : I → Type 0} {E : J → Type 0} {F : P → Type 0}
    (loads : LoadRelation ((i : I) × D i)) (load_state : (i : I) × D i → List ℕ)
    (writes : WriteRelation ((j : J) × E j)) (write_state : (j : J) × E j → List ℕ)
    (processes : ProcessRelation (DynBox P Z F)) (process_state : DynBox P Z F → List ℕ)
    (write_through : Bool) (old : Agent I J D E) (ticket : TicketClaim) (args : List Bytes) (processor : DynBox P Z F)
    (done : ProcessResult Claim) (report : Option (WriteResult Claim)) (new : Agent I J D E) (ticket' : TicketClaim)
    (processor' : DynBox P Z F) : Type 0 where
  pub reservation : ticket'.reservation ≡ ticket.reservation
  pub answered : IsAnswered ticket' (Processed done report)
  pub reported : (config : Config) → config.write_through ≡ write_through
      → IsReported config ticket.reservation (Processed done report)
  pub loader : AsksLoader (boxed loads) (boxed load_state) old.hands.outside.loader ticket.reservation.key done.load
      new.hands.outside.loader
  pub writer : AsksWriter (boxed writes) (boxed write_state) old.hands.outside.writer ticket.reservation.key
      (if write_through then process_ask done.process else None) (report_answer report) new.hands.outside.writer
  pub types : KeepsTypes old new
  pub run : RunsOnce processes process_state processor ticket.reservation.key args (is_loadable ticket.reservation.first)
      (entry_seen ticket.reservation.first) done.load done.process processor'
  pub type : processor'.vtable ≡ processor.vtable
  pub given : is_process_given done.process ≡ true
  pub held : new.hands.held ≡ 0
  pub rest : new ≡ record old { hands = new.hands }

abbrev pub own_after : ℕ → Result Reply Refusal → ℕ
own_after own (Ok reply) = one_more own
own_after own (Err refusal) = own

abbrev pub RunsProcessor : {P : Type 0} → ProcessRelation P → (P → List ℕ) → P → State → Bytes → List Bytes → Out → P → Type 0
RunsProcessor processes state old before key args out new =
    MatchBool (is_process_given out.process)
    (RunsOnce processes state old key args (before.config.read_through && is_none (entry_at before.cache key))
    (entry_at before.cache key) out.load out.process new)
    (new ≡ old)
