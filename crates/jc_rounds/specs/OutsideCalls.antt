-- One call of the loader, or one of the writer, for many asks.
--     asked_keys        the keys of these asks
--     wanted            the key of each ask, with the change that it asks for
--     is_delete         whether a batch is one of deletes
--     batch_room        the number of changes for which a batch has room
--     LoadCallState     the model of a loader's call: its asks, and the number of asks for which it still has room
--     WriteCallState    the model of a writer's call: whether it deletes, its asks, and the number of asks for which it still has
--                       room
--     no_loads, no_writes    an empty call with this room
--     with_load, with_write  the call with one ask more
--     IsLoadCall, IsWriteCall    the asks and their batch, in one order, with room for this number of further asks and for all
--                                done values
--     AreSpent          the memory of a loader's call that was made: no ask and no key, and room for as many asks as keys
--     LoadCallAsked     the loader was called once, and gave these answers for the keys; the last ask's done value comes first
--     WritesBatch       the writer was called once for exactly these changes, if there are any, and otherwise it wasn't called
--     WriteCallAsked    the writer was called like this, and gave these answers for the keys; the last ask's done value comes
--                       first
use Rattle.std.specs.Prelude.{◌≡◌, ◌≤◌, ◌+◌, ◌-◌, ◌++◌, ℕ, List, [], ◌∷◌, map, reverse, Bool, true, false, Option, Result, Ok}
use Rattle.std.specs.Prelude.{vec_len, vec_capacity}
use Rattle.std.specs.Global.{Vec}
use Rattle.jc_model.specs.Cache.{Bytes}
use Rattle.jc_model.specs.declared.event.Change.{Change}
use Rattle.jc_model.specs.declared.event.LoadAnswer.{LoadAnswer}
use Rattle.jc_model.specs.declared.event.WriteAnswer.{WriteAnswer}
use Rattle.jc_batch.specs.Changes.{changes_of}
use Rattle.jc_batch.specs.declared.batch.Batch.{Batch}
use Rattle.jc_batch.specs.declared.batch.Batch.TheVariants.{Writes, Deletes}
use Rattle.jc_outside.specs.Calling.{KeepsType}
use Rattle.jc_outside.specs.CallingAll.{LoadAllRelation, DeleteAllRelation, LoadsAllOnce, WriteAllRelation, WritesAllOnce}
use Rattle.jc_outside.specs.CallingAll.{asked_changes, loads_done, writes_done}
use Rattle.jc_outside.specs.Done.{LoadResult, WriteResult}
use Rattle.jc_session.specs.Boxed.{boxed}
use Rattle.jc_stripe.specs.Tickets.{Claim, change_asked}
use Rattle.jc_session.specs.declared.session.Session.{Session}
use Rattle.jc_rounds.specs.declared.load_call.SpentLoads.{SpentLoads}
use Rattle.jc_rounds.specs.Answers.{asked_key}

abbrev pub asked_keys : List Claim → List Bytes
asked_keys asks = map asked_key asks

abbrev pub wanted : List Claim → List (Bytes × Option Change)
wanted asks = asked_changes asked_key (λ (a : Claim). change_asked a.asked) asks

abbrev pub is_delete : Batch → Bool
is_delete (Writes batch) = false
is_delete (Deletes batch) = true

abbrev pub batch_room : Batch → ℕ
batch_room (Writes batch) = batch.room
batch_room (Deletes batch) = batch.room

-- 1. The loader.

pub record LoadCallState : Type 0 where
  pub items : List Claim
  pub room : ℕ

abbrev pub no_loads : ℕ → LoadCallState
no_loads room = record { items = []; room = room }

abbrev pub with_load : LoadCallState → Claim → LoadCallState
with_load calls ask = record { items = calls.items ++ ask ∷ []; room = calls.room - 1 }

-- `keys` are those in the batch, `room` is for how many more it has room
pub record IsLoadCall (asks : Vec Claim) (keys : List Bytes) (room : ℕ) (done : Vec (LoadResult Claim)) : Type 0 where
  pub keys_are : keys ≡ asked_keys asks.items
  pub asks_room : vec_len asks + room ≤ vec_capacity asks
  pub done_room : vec_len asks + room ≤ vec_capacity done
  pub none : done.items ≡ []

pub record AreSpent (spent : SpentLoads) : Type 0 where
  pub no_asks : spent.asks.items ≡ []
  pub no_keys : spent.batch.items ≡ []
  pub asks_room : spent.batch.room ≤ vec_capacity spent.asks

pub record LoadCallAsked
    {I J : Type 0} {D : I → Type 0} {E : J → Type 0} (loads_all : LoadAllRelation ((i : I) × D i))
    (load_state : (i : I) × D i → List ℕ)
    (old : Session I J D E) (items : List Claim) (done : List (LoadResult Claim)) (new : Session I J D E) : Type 0 where
  pub said : Bytes → LoadAnswer
  pub loads : LoadsAllOnce (boxed loads_all) (boxed load_state) old.agent.hands.outside.loader (asked_keys items) said
      new.agent.hands.outside.loader
  pub done_are : reverse done ≡ loads_done asked_key said items
  pub loader_type : KeepsType old.agent.hands.outside.loader new.agent.hands.outside.loader
  pub writer : new.agent.hands.outside.writer ≡ old.agent.hands.outside.writer

-- 2. The writer.

pub record WriteCallState : Type 0 where
  pub deletes : Bool
  pub items : List Claim
  pub room : ℕ

abbrev pub no_writes : Bool → ℕ → WriteCallState
no_writes deletes room = record { deletes = deletes; items = []; room = room }

abbrev pub with_write : WriteCallState → Claim → WriteCallState
with_write calls ask = record calls { items = calls.items ++ ask ∷ []; room = calls.room - 1 }

pub record IsWriteCall (asks : Vec Claim) (batch : Batch) (done : Vec (WriteResult Claim)) : Type 0 where
  pub batch_is : changes_of batch ≡ wanted asks.items
  pub asks_room : vec_len asks + batch_room batch ≤ vec_capacity asks
  pub done_room : vec_len asks + batch_room batch ≤ vec_capacity done
  pub none : done.items ≡ []

module _ {W : Type 0} (writes_all : WriteAllRelation W) (deletes_all : DeleteAllRelation W) (write_state : W → List ℕ) where
  abbrev pub WritesBatch : Bool → List (Bytes × Option Change) → Option W → Result (Unit {0}) ℕ → (Bytes → WriteAnswer)
      → Option W → Type 0
  WritesBatch deletes [] writer returned said writer' = (writer' ≡ writer) × (returned ≡ Ok tt)
  WritesBatch deletes (change ∷ changes) writer returned said writer' =
      (batch : Batch) × (is_delete batch ≡ deletes) × (changes_of batch ≡ change ∷ changes)
      × WritesAllOnce writes_all deletes_all write_state writer batch returned said writer'

pub record WriteCallAsked
    {I J : Type 0} {D : I → Type 0} {E : J → Type 0} (writes_all : WriteAllRelation ((j : J) × E j))
    (deletes_all : DeleteAllRelation ((j : J) × E j)) (write_state : (j : J) × E j → List ℕ)
    (old : Session I J D E) (deletes : Bool) (items : List Claim) (returned : Result (Unit {0}) ℕ) (done : List (WriteResult Claim))
    (new : Session I J D E) : Type 0 where
  pub said : Bytes → WriteAnswer
  pub writes : WritesBatch (boxed writes_all) (boxed deletes_all) (boxed write_state) deletes (wanted items)
      old.agent.hands.outside.writer returned said new.agent.hands.outside.writer
  pub done_are : reverse done ≡ writes_done asked_key said items
  pub writer_type : KeepsType old.agent.hands.outside.writer new.agent.hands.outside.writer
  pub loader : new.agent.hands.outside.loader ≡ old.agent.hands.outside.loader
