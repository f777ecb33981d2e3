-- Whole calls with many keys.
--     causes_of      the faults and refusals that a call has met: those of its keys, and those that the writer returned
--     TellsDone      the result of a call with this cause, if any, and with these failed keys: that it is done, or the cause with
--                    the failed keys
--     TellsFound     as `TellsDone`, for a call that gets, with the values that it has found
--     IsBulkCall     a session's next call, carried out for these keys, each with its end; the loader or the writer was called
--                    once for each of its rounds, and neither was called otherwise. It has a cause exactly if it has met a fault
--                    or a refusal, and the cause is one of the first that it met
--     DoesAll        such a call, with its result: of its keys it returns only those that failed
--     GetsAll        such a call that gets, with its result: it returns each key that has a value
--     NamesNoKey     the fault of a call that is refused whole, with this cause
--     IsRefused      the result of a call that is refused whole
--     OrNoMemory     a call has this outcome; or it was refused because an allocation failed before its first phase, and nothing
--                    has changed
--     OrRefused      as `OrNoMemory`; or the call was refused because it has too many keys
--     IsLookedAt     the keys that a stripe had when a seat found it between two views, in its one lending there, which changed
--                    nothing
--     HasLooked      the keys of all stripes, in their order, from one look at each
--     LooksOnce      a seat has taken the stripe at most once between two views, and has left it as it found it
--     OnlyLooks      the session has looked at each stripe at most once; its steps, its number and the rest of it are unchanged
--     LooksFirst     a call on all keys: it has looked at each stripe and found these keys, and then this was done, from what the
--                    session had seen
--     SweepsAll      a call on all keys has this outcome for the keys that it found; or an allocation failed, and it has only
--                    looked
use Rattle.std.specs.Prelude.{◌≡◌, ◌≤◌, ◌<◌, ◌⊎◌, ◌++◌, ℕ, List, [], ◌∷◌, length, map, Option, None, Some, Result, Ok, Err}
use Rattle.std.specs.Prelude.{slice_get}
use Rattle.std.specs.List.{flat_map}
use mathlib.Core.List.{IsPrefix}
use Rattle.atomic_table.specs.Seated.{TableId}
use Rattle.indexmap.specs.IndexMap.{IndexMap}
use Rattle.jc_types.specs.declared.limits.TheConstants.{BULK_KEYS_MAX}
use Rattle.jc_types.specs.declared.refusal.Refusal.{Refusal}
use Rattle.jc_types.specs.declared.refusal.Refusal.TheVariants.{OutOfMemory, TooManyKeys}
use Rattle.jc_model.specs.Cache.{Bytes}
use Rattle.jc_model.specs.declared.event.Op.{Op}
use Rattle.jc_stripe.specs.Keys.{AreKeys}
use Rattle.jc_stripe.specs.Generations.{whole_history, IsOfSameStripe}
use Rattle.jc_stripe.specs.Reached.{IsReached}
use Rattle.jc_stripe.specs.State.{State}
use Rattle.jc_lock.specs.declared.view.View.{View}
use Rattle.jc_cache.specs.Caches.{CacheState}
use Rattle.jc_session.specs.declared.session.Session.{Session}
use Rattle.jc_session.specs.Sessions.{next_call}
use Rattle.jc_cache.specs.Turns.{HasLent}
use Rattle.jc_bulk.specs.declared.fault.BulkFault.{BulkFault}
use Rattle.jc_rounds.specs.Causes.{IsFirst}
use Rattle.jc_rounds.specs.Ends.{KeyEnd, failed_entries, found_entries}
use Rattle.jc_rounds.specs.KeyProgress.{IsCauseIn}
use Rattle.jc_rounds.specs.Rounds.{Round, faults_in}
use Rattle.jc_rounds.specs.Running.{IsCarriedOut}
use Rattle.jc_rounds.specs.Seats.{HasGrown, view_at}
use Rattle.jc_bulk.specs.Outside.{BulkBehavior, HaveAsked}

-- 1. A call.

abbrev pub causes_of : List KeyEnd → List Round → List Refusal
causes_of ends rounds = map (λ (e : Bytes × Refusal). e.1) (failed_entries ends) ++ faults_in rounds

abbrev pub TellsDone : Result (Unit {0}) BulkFault → Option Refusal → List (Bytes × Refusal) → Type 0
TellsDone (Ok done) cause failed = (cause ≡ None) × (failed ≡ [])
TellsDone (Err fault) cause failed = (cause ≡ Some fault.cause) × (failed ≡ fault.failed.entries) × (fault.found.entries ≡ [])

abbrev pub TellsFound : {S : Type 0} → Result (IndexMap Bytes Bytes S) BulkFault → Option Refusal → List (Bytes × Refusal)
    → List (Bytes × Bytes) → Type 0
TellsFound (Ok values) cause failed found = (cause ≡ None) × (failed ≡ []) × (found ≡ values.entries)
TellsFound (Err fault) cause failed found =
    (cause ≡ Some fault.cause) × (failed ≡ fault.failed.entries) × (found ≡ fault.found.entries)

module _ {I J : Type 0} {D : I → Type 0} {E : J → Type 0} (behavior : BulkBehavior ((i : I) × D i) ((j : J) × E j))
    (cache : CacheState) (old : Session I J D E) (targets : List (Bytes × Op)) where
  -- `old` and `new` are the session before and after
  pub record IsBulkCall (ends : List KeyEnd) (cause : Option Refusal) (new : Session I J D E) : Type 0 where
    pub rounds : List Round
    pub carried : IsCarriedOut cache old targets ends rounds new
    pub asked : HaveAsked behavior old new rounds
    pub met : IsCauseIn cause (causes_of ends rounds)
    pub first : IsFirst cache.config (next_call old).agent.caller targets old.seats.items [] carried.started.ends cause

  abbrev pub DoesAll : Result (Unit {0}) BulkFault → Session I J D E → Type 0
  DoesAll result new =
      (ends : List KeyEnd) × (cause : Option Refusal) × IsBulkCall ends cause new × TellsDone result cause (failed_entries ends)

  abbrev pub GetsAll : {S : Type 0} → Result (IndexMap Bytes Bytes S) BulkFault → Session I J D E → Type 0
  GetsAll result new =
      (ends : List KeyEnd) × (cause : Option Refusal) × IsBulkCall ends cause new
      × TellsFound result cause (failed_entries ends) (found_entries ends)

-- 2. A call that is refused whole.

abbrev pub NamesNoKey : BulkFault → Refusal → Type 0
NamesNoKey fault cause = (fault.cause ≡ cause) × (fault.failed.entries ≡ []) × (fault.found.entries ≡ [])

abbrev pub IsRefused : {T : Type 0} → Result T BulkFault → Refusal → Type 0
IsRefused (Ok done) cause = ⊥
IsRefused (Err fault) cause = NamesNoKey fault cause

-- `Ends` is how the call ends that isn't refused; `old` and `new` are who makes it, before and after
module _ {T S : Type 0} (Ends : Result T BulkFault → S → Type 0) where
  abbrev pub OrNoMemory : S → Result T BulkFault → S → Type 0
  OrNoMemory old result new = Ends result new ⊎ (IsRefused result OutOfMemory × (new ≡ old))

  -- `keys` is how many keys it has
  abbrev pub OrRefused : ℕ → S → Result T BulkFault → S → Type 0
  OrRefused keys old result new =
      ((keys ≤ BULK_KEYS_MAX) × OrNoMemory old result new) ⊎ ((BULK_KEYS_MAX < keys) × IsRefused result TooManyKeys × (new ≡ old))

-- 3. A call on all keys that there are.

pub record IsLookedAt (before after : View) (keys : List Bytes) : Type 0 where
  pub seen : State
  pub reached : IsReached seen
  pub same : IsOfSameStripe seen after.noted
  pub since : IsPrefix before.front (whole_history seen)
  pub later : IsPrefix (whole_history seen) after.front
  pub looked : HasLent before ((seen, seen) ∷ []) after
  pub keys_are : AreKeys seen keys

pub record HasLooked (stripes : ℕ) (old new : List (TableId × View)) (keys : List Bytes) : Type 0 where
  pub found : List (List Bytes)
  pub count : length found ≡ stripes
  pub each : (i : ℕ) (some : List Bytes) → slice_get found i ≡ Some some → IsLookedAt (view_at old i) (view_at new i) some
  pub keys_are : keys ≡ flat_map (λ (some : List Bytes). some) found

abbrev pub LooksOnce : View → View → Type 0
LooksOnce before after = HasLent before [] after ⊎ ((seen : State) × HasLent before ((seen, seen) ∷ []) after)

pub record OnlyLooks {I J : Type 0} {D : I → Type 0} {E : J → Type 0} (old new : Session I J D E) : Type 0 where
  pub grown : (i : ℕ) → HasGrown (view_at old.seats.items i) (view_at new.seats.items i)
  pub looks : (i : ℕ) → LooksOnce (view_at old.seats.items i) (view_at new.seats.items i)
  pub own : (i : ℕ) → (view_at new.seats.items i).own ≡ (view_at old.seats.items i).own
  pub agent : new.agent ≡ old.agent

pub record LooksFirst {I J : Type 0} {D : I → Type 0} {E : J → Type 0} (stripes : ℕ) (old : Session I J D E) (keys : List Bytes)
    (Done : Session I J D E → Type 0) : Type 0 where
  pub looked : Session I J D E
  pub only : OnlyLooks old looked
  pub found : HasLooked stripes old.seats.items looked.seats.items keys
  pub done : Done looked

-- `Ends` is how the call ends for the keys that it has found
abbrev pub SweepsAll : {I J T : Type 0} {D : I → Type 0} {E : J → Type 0} → ℕ
    → (Session I J D E → List Bytes → Result T BulkFault → Session I J D E → Type 0)
    → Session I J D E → Result T BulkFault → Session I J D E → Type 0
SweepsAll stripes Ends old result new =
    ((keys : List Bytes) × LooksFirst stripes old keys (λ looked. Ends looked keys result new))
    ⊎ (IsRefused result OutOfMemory × OnlyLooks old new)
