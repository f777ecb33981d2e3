-- The rounds of a call that runs a processor on many keys. No contract of a public function cites this.
--     IsInvoked       each operation of the call is an `Invoke`
--     IsInvokeReady   the call runs a processor at each key, and this is the memory for what a round asks outside
--     HaveAsked       the processor, the loader and the writer were called for exactly these rounds, and have the same types as
--                     before
--     RunsOn          rounds of the call, with these calls outside
use Rattle.std.specs.declared.dyn_box.DynBox.{DynBox}
use Rattle.std.specs.Prelude.{◌≡◌, List, map}
use Rattle.jc_types.specs.declared.config.Config.{Config}
use Rattle.jc_model.specs.Cache.{Bytes}
use Rattle.jc_model.specs.declared.event.Op.TheVariants.{Invoke}
use Rattle.jc_engine.specs.Asking.{KeepsTypes}
use Rattle.jc_cache.specs.Caches.{CacheState}
use Rattle.jc_session.specs.declared.session.Session.{Session}
use Rattle.jc_rounds.specs.declared.bulk_call.BulkCall.{BulkCall}
use Rattle.jc_rounds.specs.Rounds.{ProcessAll, ProcessRound, Round}
use Rattle.jc_rounds.specs.AskingRounds.{RunsRounds}
use Rattle.jc_rounds.specs.Targets.{ops_of, ops_with}
use Rattle.jc_rounds.specs.Underway.{CallPast}
use Rattle.jc_invoke.specs.declared.room.RoundRoom.{RoundRoom}
use Rattle.jc_invoke.specs.RoundRooms.{IsRoundRoomFor}
use Rattle.jc_invoke.specs.Runs.{CallsEach, RunBehavior, in_boxes}

abbrev pub IsInvoked : BulkCall → Type 0
IsInvoked call = (keys : List Bytes) × (ops_of call.targets.now ≡ ops_with Invoke keys)

pub record IsInvokeReady (config : Config) (call : BulkCall) (room : RoundRoom) : Type 0 where
  pub invoked : IsInvoked call
  pub room_is : IsRoundRoomFor call.most config.write_through room

module _ {I J P Z : Type 0} {D : I → Type 0} {E : J → Type 0} {F : P → Type 0}
    (behavior : RunBehavior ((i : I) × D i) ((j : J) × E j) (DynBox P Z F)) (args : List Bytes) (cache : CacheState) where
  pub record HaveAsked (old : Session I J D E) (processor : DynBox P Z F) (new : Session I J D E) (processor' : DynBox P Z F)
      (rounds : List Round) : Type 0 where
    pub runs : List ProcessRound
    pub rounds_are : rounds ≡ map ProcessAll runs
    pub calls : CallsEach (in_boxes behavior) args cache.config.write_through
        processor old.agent.hands.outside.loader old.agent.hands.outside.writer runs processor' new.agent.hands.outside.loader
        new.agent.hands.outside.writer
    pub types : KeepsTypes old.agent new.agent
    pub processor_type : processor'.vtable ≡ processor.vtable

  abbrev pub RunsOn : CallPast → Session I J D E → BulkCall → DynBox P Z F → Session I J D E → BulkCall → DynBox P Z F → Type 0
  RunsOn past old call processor new later processor' =
      RunsRounds (HaveAsked old processor new processor') cache past old call new later
