-- A session's agent after a call outside: of its loader, its writer or an entry processor. Its hands hold no stripe, and the rest
-- of it is unchanged.
--     LoaderAsked       the loader was called once, with the ask's key, and this is its done value; the writer stays
--     WriterAsked       the writer was called once, for the ask's change, and this is its done value; the loader stays
--     ProcessorRun      a processor was run once, on the entry of the ask, with at most one call of the loader; the writer stays
--     LoaderAskedAll    the loader was called once, with these keys, and there is a done value for each ask; the writer stays
--     WriterAskedAll    the writer was called once, for this batch, and returned this; there is a done value for each ask; the
--                       loader stays
use Rattle.std.specs.declared.dyn_box.DynBox.{DynBox}
use Rattle.std.specs.Prelude.{◌≡◌, ◌++◌, ℕ, List, true, Result}
use Rattle.jc_model.specs.Cache.{Bytes}
use Rattle.jc_model.specs.Table.{is_load_given, is_write_given, is_process_given}
use Rattle.jc_model.specs.declared.event.LoadAnswer.{LoadAnswer}
use Rattle.jc_model.specs.declared.event.WriteAnswer.{WriteAnswer}
use Rattle.jc_batch.specs.declared.batch.Batch.{Batch}
use Rattle.jc_outside.specs.Calling.{KeepsType, LoadRelation, LoadsOnce, WriteRelation, WritesOnce}
use Rattle.jc_outside.specs.CallingAll.{LoadAllRelation, WriteAllRelation, DeleteAllRelation, LoadsAllOnce, WritesAllOnce}
use Rattle.jc_outside.specs.CallingAll.{loads_done, writes_done}
use Rattle.jc_outside.specs.Done.{LoadResult, WriteResult}
use Rattle.jc_outside.specs.declared.done.Origin.TheVariants.{Live}
use Rattle.jc_mutentry.specs.Done.{ProcessResult}
use Rattle.jc_mutentry.specs.Running.{ProcessRelation, RunsOnce, LoadsIfGiven}
use Rattle.jc_stripe.specs.Tickets.{Claim, change_asked, entry_seen, is_loadable}
use Rattle.jc_session.specs.Boxed.{boxed}
use Rattle.jc_session.specs.declared.agent.Agent.{Agent}

-- 1. For one key.

pub record LoaderAsked
    {I J : Type 0} {D : I → Type 0} {E : J → Type 0} (loads : LoadRelation ((i : I) × D i)) (load_state : (i : I) × D i → List ℕ)
    (old : Agent I J D E) (asked : Claim) (done : LoadResult Claim) (new : Agent I J D E) : Type 0 where
  pub ask : done.ask ≡ asked
  pub origin : done.origin ≡ Live
  pub given : is_load_given done.answer ≡ true
  pub loader : LoadsOnce (boxed loads) (boxed load_state) old.hands.outside.loader asked.key done.answer new.hands.outside.loader
  pub loader_type : KeepsType old.hands.outside.loader new.hands.outside.loader
  pub writer : new.hands.outside.writer ≡ old.hands.outside.writer
  pub held : new.hands.held ≡ 0
  pub rest : new ≡ record old { hands = new.hands }

pub record WriterAsked
    {I J : Type 0} {D : I → Type 0} {E : J → Type 0} (writes : WriteRelation ((j : J) × E j)) (write_state : (j : J) × E j → List ℕ)
    (old : Agent I J D E) (asked : Claim) (done : WriteResult Claim) (new : Agent I J D E) : Type 0 where
  pub ask : done.ask ≡ asked
  pub origin : done.origin ≡ Live
  pub given : is_write_given done.answer ≡ true
  pub writer : WritesOnce (boxed writes) (boxed write_state) old.hands.outside.writer asked.key (change_asked asked.asked)
      done.answer new.hands.outside.writer
  pub writer_type : KeepsType old.hands.outside.writer new.hands.outside.writer
  pub loader : new.hands.outside.loader ≡ old.hands.outside.loader
  pub held : new.hands.held ≡ 0
  pub rest : new ≡ record old { hands = new.hands }

pub record ProcessorRun
    {I J P Z : Type 0} {D : I → Type 0} {E : J → Type 0} {F : P → Type 0} (loads : LoadRelation ((i : I) × D i))
    (load_state : (i : I) × D i → List ℕ)
    (processes : ProcessRelation (DynBox P Z F)) (process_state : DynBox P Z F → List ℕ)
    (old : Agent I J D E) (asked : Claim) (args : List Bytes) (processor : DynBox P Z F) (done : ProcessResult Claim)
    (new : Agent I J D E) (processor' : DynBox P Z F) : Type 0 where
  pub ask : done.ask ≡ asked
  pub origin : done.origin ≡ Live
  pub given : is_process_given done.process ≡ true
  pub run : RunsOnce processes process_state processor asked.key args (is_loadable asked.asked) (entry_seen asked.asked) done.load
      done.process processor'
  pub loader : LoadsIfGiven (boxed loads) (boxed load_state) old.hands.outside.loader asked.key done.load new.hands.outside.loader
  pub loader_type : KeepsType old.hands.outside.loader new.hands.outside.loader
  pub processor_type : processor'.vtable ≡ processor.vtable
  pub writer : new.hands.outside.writer ≡ old.hands.outside.writer
  pub held : new.hands.held ≡ 0
  pub rest : new ≡ record old { hands = new.hands }

-- 2. For many keys.

pub record LoaderAskedAll
    {I J : Type 0} {D : I → Type 0} {E : J → Type 0} (loads_all : LoadAllRelation ((i : I) × D i))
    (load_state : (i : I) × D i → List ℕ)
    (old : Agent I J D E) (asks : List Claim) (keys : List Bytes) (before after : List (LoadResult Claim))
    (new : Agent I J D E) : Type 0 where
  pub said : Bytes → LoadAnswer
  pub loader : LoadsAllOnce (boxed loads_all) (boxed load_state) old.hands.outside.loader keys said new.hands.outside.loader
  pub done : after ≡ before ++ loads_done (λ (ask : Claim). ask.key) said asks
  pub loader_type : KeepsType old.hands.outside.loader new.hands.outside.loader
  pub writer : new.hands.outside.writer ≡ old.hands.outside.writer
  pub held : new.hands.held ≡ 0
  pub rest : new ≡ record old { hands = new.hands }

pub record WriterAskedAll
    {I J : Type 0} {D : I → Type 0} {E : J → Type 0} (writes_all : WriteAllRelation ((j : J) × E j))
    (deletes_all : DeleteAllRelation ((j : J) × E j)) (write_state : (j : J) × E j → List ℕ)
    (old : Agent I J D E) (asks : List Claim) (batch : Batch) (returned : Result (Unit {0}) ℕ)
    (before after : List (WriteResult Claim)) (new : Agent I J D E) : Type 0 where
  pub said : Bytes → WriteAnswer
  pub writer : WritesAllOnce (boxed writes_all) (boxed deletes_all) (boxed write_state) old.hands.outside.writer batch returned said
      new.hands.outside.writer
  pub done : after ≡ before ++ writes_done (λ (ask : Claim). ask.key) said asks
  pub writer_type : KeepsType old.hands.outside.writer new.hands.outside.writer
  pub loader : new.hands.outside.loader ≡ old.hands.outside.loader
  pub held : new.hands.held ≡ 0
  pub rest : new ≡ record old { hands = new.hands }
