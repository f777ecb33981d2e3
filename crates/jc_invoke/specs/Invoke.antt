-- Whole calls that run a processor on many keys.
--     IsInvokedAll     a session's next call, carried out for these keys, each with its end, in rounds with these calls outside
--     IsRefusedWhole   a call has too many keys, or an allocation failed, and nothing changes
--     InvokesAll       such a call, with what it returns: the result of each key that has one, or its refusal as a whole
use Rattle.std.specs.declared.dyn_box.DynBox.{DynBox}
use Rattle.std.specs.Prelude.{◌≡◌, ◌≤◌, ◌<◌, ◌⊎◌, ℕ, List, length, map, Result, Ok, Err}
use Rattle.indexmap.specs.IndexMap.{IndexMap}
use Rattle.jc_types.specs.declared.limits.TheConstants.{BULK_KEYS_MAX}
use Rattle.jc_types.specs.declared.refusal.Refusal.{Refusal}
use Rattle.jc_types.specs.declared.refusal.Refusal.TheVariants.{OutOfMemory, TooManyKeys}
use Rattle.jc_model.specs.Cache.{Bytes}
use Rattle.jc_model.specs.declared.event.Op.TheVariants.{Invoke}
use Rattle.jc_model.specs.declared.event.Reply.TheVariants as reply
use Rattle.jc_engine.specs.Asking.{KeepsTypes}
use Rattle.jc_cache.specs.Caches.{CacheState}
use Rattle.jc_session.specs.declared.session.Session.{Session}
use Rattle.jc_rounds.specs.Ends.{KeyEnd, result_entries}
use Rattle.jc_rounds.specs.Rounds.{ProcessAll, ProcessRound}
use Rattle.jc_rounds.specs.Running.{IsCarriedOut}
use Rattle.jc_rounds.specs.Targets.{ops_with}
use Rattle.jc_invoke.specs.Runs.{CallsEach, RunBehavior, in_boxes}

-- `old` and `new` are the session before and after, `processor` and `processor'` the processor
pub record IsInvokedAll
    {I J P Z : Type 0} {D : I → Type 0} {E : J → Type 0} {F : P → Type 0}
    (behavior : RunBehavior ((i : I) × D i) ((j : J) × E j) (DynBox P Z F))
    (cache : CacheState) (old : Session I J D E) (keys : List Bytes) (args : List Bytes) (processor : DynBox P Z F)
    (ends : List KeyEnd) (rounds : List ProcessRound) (new : Session I J D E) (processor' : DynBox P Z F) : Type 0 where
  pub carried : IsCarriedOut cache old (ops_with Invoke keys) ends (map ProcessAll rounds) new
  pub calls : CallsEach (in_boxes behavior) args cache.config.write_through
      processor old.agent.hands.outside.loader old.agent.hands.outside.writer rounds processor' new.agent.hands.outside.loader
      new.agent.hands.outside.writer
  pub types : KeepsTypes old.agent new.agent
  pub processor_type : processor'.vtable ≡ processor.vtable

-- `keys` is how many keys it has
abbrev pub IsRefusedWhole : {S P : Type 0} → S → P → ℕ → Refusal → S → P → Type 0
IsRefusedWhole old processor keys refusal new processor' =
    ((refusal ≡ TooManyKeys) × (BULK_KEYS_MAX < keys) ⊎ (refusal ≡ OutOfMemory) × (keys ≤ BULK_KEYS_MAX))
    × (new ≡ old) × (processor' ≡ processor)

-- `old` and `new` are the session before and after, `processor` and `processor'` the processor
module _ {I J P Z S : Type 0} {D : I → Type 0} {E : J → Type 0} {F : P → Type 0}
    (behavior : RunBehavior ((i : I) × D i) ((j : J) × E j) (DynBox P Z F))
    (cache : CacheState) (old : Session I J D E) (keys : List Bytes) (args : List Bytes) (processor : DynBox P Z F) where
  abbrev pub InvokesAll : Result (IndexMap Bytes (Result Bytes Refusal) S) Refusal → Session I J D E → DynBox P Z F → Type 0
  InvokesAll (Ok results) new processor' =
      (length keys ≤ BULK_KEYS_MAX) × (ends : List KeyEnd) × (rounds : List ProcessRound)
      × IsInvokedAll behavior cache old keys args processor ends rounds new processor' × (results.entries ≡ result_entries ends)
  InvokesAll (Err refusal) new processor' = IsRefusedWhole old processor (length keys) refusal new processor'
