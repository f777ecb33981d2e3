-- The whole calls of `Cache`: what its session has seen, who was asked, and what is left (`Returns`).
--     AtStripe    a session's seat at the stripe of a key goes from one view to another, and its other seats are unchanged
--     CallsAt     a session's current call, whole, at a key, with this end: what its seat has seen; its lendings, turn by turn,
--                 each between what the seat had seen and what it has seen; and the calls of its loader and writer, whose types
--                 stay the same. The rest of the session is unchanged, except for the count of its steps
--     Called      as `CallsAt`, for the session's next call
--     Returns     a session's next call, whole, and its result
--     Gets        as `Returns`, for a get: it looked for its entry in its first lending, and if it found the entry there, it has
--                 no other lending
--     Tried       a session's next call, which never waits and asks nobody
--     Tries       such a call, and its result
--     Invoked     a session's next call, whole, which runs a processor; the entry that the processor was shown is the one in the
--                 state in which the call's step was made: no other step and no eviction at the key lies between
--     value_in, flag_in, unit_in    the result of a call that replies with a value, with yes or no, or with nothing; a fault is
--                                   an error
use Rattle.std.specs.declared.dyn_box.DynBox.{DynBox}
use Rattle.std.specs.Prelude.{◌≡◌, ℕ, List, Bool, false, Some, Result, Ok, Err, slice_get, slice_set}
use Rattle.atomic_table.specs.Seated.{TableId}
use Rattle.jc_types.specs.Stripes.{stripe_of}
use Rattle.jc_types.specs.declared.refusal.Refusal.{Refusal}
use Rattle.jc_model.specs.Cache.{Bytes}
use Rattle.jc_model.specs.declared.event.Op.{Op}
use Rattle.jc_model.specs.declared.event.Op.TheVariants.{Get, Invoke}
use Rattle.jc_model.specs.declared.event.Out.{Out}
use Rattle.jc_model.specs.declared.event.Reply.{Reply}
use Rattle.jc_model.specs.declared.event.Reply.TheVariants as reply
use Rattle.jc_outside.specs.Calling.{LoadRelation, WriteRelation}
use Rattle.jc_mutentry.specs.Running.{ProcessRelation}
use Rattle.jc_stripe.specs.State.{State}
use Rattle.jc_lock.specs.declared.view.View.{View}
use Rattle.jc_session.specs.Boxed.{boxed}
use Rattle.jc_session.specs.Sessions.{next_call}
use Rattle.jc_engine.specs.Asking.{AsksLoader, AsksWriter, KeepsTypes, RunsProcessor, change_wanted, own_after}
use Rattle.jc_engine.specs.Rows.{AllLend}
use Rattle.jc_engine.specs.Turns.{HasLookedFirst, IsCallRow, state_decided, state_found}
pub use Rattle.jc_engine.specs.Values.{value_in, value_into}
use Rattle.jc_session.specs.declared.session.Session.{Session}
use Rattle.jc_cache.specs.Caches.{CacheState}
use Rattle.jc_cache.specs.Fronts.{SeatAfter, SeatTried, IsBetween, IsMadeIn}
use Rattle.jc_cache.specs.Turns.{HasLent}

-- 1. One seat of a session.

pub record AtStripe {I J : Type 0} {D : I → Type 0} {E : J → Type 0} (cache : CacheState) (key : Bytes) (old : Session I J D E)
    (before after : View) (new : Session I J D E) : Type 0 where
  pub lock : TableId
  pub was : slice_get old.seats.items (stripe_of key cache.config.stripes) ≡ Some (lock, before)
  pub now : new.seats.items ≡ slice_set old.seats.items (stripe_of key cache.config.stripes) (lock, after)

-- 2. Whole calls.

pub record CallsAt
    {I J : Type 0} {D : I → Type 0} {E : J → Type 0}
    (loads : LoadRelation ((i : I) × D i)) (load_state : (i : I) × D i → List ℕ)
    (writes : WriteRelation ((j : J) × E j)) (write_state : (j : J) × E j → List ℕ)
    (cache : CacheState) (old : Session I J D E) (key : Bytes) (op : Op) (ended : Result Reply Refusal)
    (new : Session I J D E) : Type 0 where
  pub before : View
  pub after : View
  pub at : AtStripe cache key old before after new
  pub asked : Out
  pub seat : SeatAfter before old.agent.caller key op asked ended after
  pub row : List (State × State)
  pub lent : HasLent before row after
  pub between : AllLend (λ found left. IsBetween before found after) row
  pub did : IsCallRow old.agent.caller key op asked ended row
  pub loader : AsksLoader (boxed loads) (boxed load_state) old.agent.hands.outside.loader key asked.load
      new.agent.hands.outside.loader
  pub writer : AsksWriter (boxed writes) (boxed write_state) old.agent.hands.outside.writer key
      (change_wanted (state_found did) key op asked.process) asked.write new.agent.hands.outside.writer
  pub types : KeepsTypes old.agent new.agent
  pub left : new.agent
      ≡ record old.agent {
        counts = record old.agent.counts { own = own_after old.agent.counts.own ended };
        hands = new.agent.hands;
      }

abbrev pub Called : {I J : Type 0} {D : I → Type 0} {E : J → Type 0} → LoadRelation ((i : I) × D i) → ((i : I) × D i → List ℕ)
    → WriteRelation ((j : J) × E j) → ((j : J) × E j → List ℕ)
    → CacheState → Session I J D E → Bytes → Op → Result Reply Refusal → Session I J D E → Type 0
Called loads load_state writes write_state cache old key op ended new =
    CallsAt loads load_state writes write_state cache (next_call old) key op ended new

abbrev pub Returns : {I J T : Type 0} {D : I → Type 0} {E : J → Type 0} → LoadRelation ((i : I) × D i) → ((i : I) × D i → List ℕ)
    → WriteRelation ((j : J) × E j) → ((j : J) × E j → List ℕ)
    → CacheState → Session I J D E → Bytes → Op → (Result Reply Refusal → T) → T → Session I J D E → Type 0
Returns loads load_state writes write_state cache old key op answer_in result new =
    (ended : Result Reply Refusal) × Called loads load_state writes write_state cache old key op ended new
    × (result ≡ answer_in ended)

abbrev pub Gets : {I J T : Type 0} {D : I → Type 0} {E : J → Type 0} → LoadRelation ((i : I) × D i) → ((i : I) × D i → List ℕ)
    → WriteRelation ((j : J) × E j) → ((j : J) × E j → List ℕ)
    → CacheState → Session I J D E → Bytes → (Result Reply Refusal → T) → T → Session I J D E → Type 0
Gets loads load_state writes write_state cache old key answer_in result new =
    (ended : Result Reply Refusal) × (called : Called loads load_state writes write_state cache old key Get ended new)
    × (result ≡ answer_in ended)
    × HasLookedFirst (next_call old).agent.caller key called.row

-- 3. Calls that wait for nobody.

pub record Tried {I J : Type 0} {D : I → Type 0} {E : J → Type 0} (cache : CacheState) (old : Session I J D E) (key : Bytes)
    (op : Op) (ended : Result Reply Refusal) (new : Session I J D E) : Type 0 where
  pub before : View
  pub after : View
  pub at : AtStripe cache key (next_call old) before after new
  pub seat : SeatTried before (next_call old).agent.caller key op ended after
  pub left : new.agent
      ≡ record (next_call old).agent { counts = record old.agent.counts { own = own_after old.agent.counts.own ended } }

abbrev pub Tries : {I J T : Type 0} {D : I → Type 0} {E : J → Type 0} → CacheState → Session I J D E → Bytes → Op
    → (Result Reply Refusal → T) → T → Session I J D E → Type 0
Tries cache old key op answer_in result new =
    (ended : Result Reply Refusal) × Tried cache old key op ended new × (result ≡ answer_in ended)

-- 4. A call that runs a processor.

pub record Invoked
    {I J P Z : Type 0} {D : I → Type 0} {E : J → Type 0} {F : P → Type 0}
    (loads : LoadRelation ((i : I) × D i)) (load_state : (i : I) × D i → List ℕ)
    (writes : WriteRelation ((j : J) × E j)) (write_state : (j : J) × E j → List ℕ)
    (processes : ProcessRelation (DynBox P Z F)) (process_state : DynBox P Z F → List ℕ)
    (cache : CacheState) (old : Session I J D E) (key : Bytes) (args : List Bytes) (processor : DynBox P Z F)
    (ended : Result Reply Refusal) (new : Session I J D E) (processor' : DynBox P Z F) : Type 0 where
  pub call : Called loads load_state writes write_state cache old key Invoke ended new
  pub run : RunsProcessor processes process_state processor (state_decided call.did) key args call.asked processor'
  pub alone : IsMadeIn call.before (next_call old).agent.caller key Invoke call.asked ended call.after call.seat
      (state_decided call.did)
  pub type : processor'.vtable ≡ processor.vtable

-- 5. What a call returns.

abbrev pub flag_in : Result Reply Refusal → Result Bool Refusal
flag_in (Err refusal) = Err refusal
flag_in (Ok (reply.Fault fault)) = Err fault
flag_in (Ok (reply.Flag flag)) = Ok flag
flag_in (Ok (reply.Value value)) = Ok false
flag_in (Ok reply.Unit) = Ok false

abbrev pub unit_in : Result Reply Refusal → Result (Unit {0}) Refusal
unit_in (Err refusal) = Err refusal
unit_in (Ok (reply.Fault fault)) = Err fault
unit_in (Ok answer) = Ok tt
