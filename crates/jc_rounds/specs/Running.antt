-- The rounds of a bulk call, one after another, and the bulk call as a whole (`HasRun`).
--     HeldInEach     each key that is held back now was put off in each of these rounds, and had no step of the call after it
--     IsRound        one round of the session's current call, with its call outside, if it made one: each key that it leaves
--                    waiting was put off, and it has asked for keys that waited before it
--     with_rounds    the past with these rounds more
--     HasRun         the call with nothing out, after rounds each of which started every key that it could; its cause is one of
--                    the first that it met
--     EachTakesMemory    a later round takes memory for each of these keys
--     near_places    the places of a history that promises may hold, and those that one step more needs
--     IsNearFull     the present generation's history is nearly full, or the call's or a reservation's number would overflow
--     WasNearFull    the seat has found the stripe nearly full between these views, and left it so
--     IsCarriedOut   a session's next call, carried out for these keys, each with its end, in rounds with these calls outside; at
--                    each stripe it has changed nothing except by phases at its keys there
use Rattle.std.specs.Prelude.{◌≡◌, ◌≤◌, ◌<◌, ◌+◌, ◌*◌, ◌⊎◌, ◌++◌, ℕ, List, [], ◌∷◌, length, All, true, false, Some, Err, slice_get}
use mathlib.Core.List.{IsPrefix}
use Rattle.atomic_table.specs.Seated.{TableId}
use Rattle.jc_types.specs.declared.caller.Caller.{Caller}
use Rattle.jc_types.specs.declared.config.Config.{Config}
use Rattle.jc_types.specs.declared.limits.TheConstants.{JOINERS_MAX, RESERVATIONS_MAX, STEP_PLACES}
use Rattle.jc_types.specs.declared.refusal.Refusal.TheVariants.{HistoryFull}
use Rattle.jc_model.specs.Batches.{is_among}
use Rattle.jc_model.specs.Cache.{Bytes}
use Rattle.jc_model.specs.declared.event.Op.{Op}
use Rattle.jc_stripe.specs.Generations.{whole_history, IsOfSameStripe}
use Rattle.jc_stripe.specs.Reached.{IsReached}
use Rattle.jc_stripe.specs.Refusals.{last_number}
use Rattle.jc_stripe.specs.State.{State}
use Rattle.jc_lock.specs.declared.view.View.{View}
use Rattle.jc_cache.specs.Caches.{CacheState}
use Rattle.jc_session.specs.Sessions.{next_call}
use Rattle.jc_session.specs.declared.session.Session.{Session}
use Rattle.jc_rounds.specs.declared.bulk_call.BulkCall.{BulkCall}
use Rattle.jc_rounds.specs.declared.progress.KeyProgress.{KeyProgress}
use Rattle.jc_rounds.specs.declared.progress.KeyProgress.TheVariants.{Waiting}
use Rattle.jc_rounds.specs.Asking.{AsksEachOnce}
use Rattle.jc_rounds.specs.Causes.{IsFirst}
use Rattle.jc_rounds.specs.Ends.{KeyEnd, key_ops}
use Rattle.jc_rounds.specs.Keys.{EndsKey, TakesMemory}
use Rattle.jc_rounds.specs.Lendings.{OnlyPhases}
use Rattle.jc_rounds.specs.Recorded.{former_steps, steps_of}
use Rattle.jc_rounds.specs.Rounds.{Round, asked_in}
use Rattle.jc_rounds.specs.Seats.{HasFound, HasGrown, view_at, view_of}
use Rattle.jc_rounds.specs.SoFar.{AreHeldBack, HaveNoStep, KeysAdvance, is_target_of}
use Rattle.jc_rounds.specs.Starting.{AsksAtMostOnce, HasStartedAll, IsFull, RoundEnd}
use Rattle.jc_rounds.specs.Targets.{ops_of}
use Rattle.jc_rounds.specs.Underway.{CallPast, IsBetween}

-- 1. Rounds.

module _ (caller : Caller) (stripes : ℕ) (targets : List (Bytes × Op)) where
  abbrev pub HeldInEach : List (TableId × View) → List RoundEnd → List KeyProgress → Type 0
  HeldInEach old [] progress = Unit {0}
  HeldInEach old (e ∷ es) progress =
      AreHeldBack (IsFull caller stripes targets old e.seats (length (asked_in e.calls))) (length targets) caller stripes targets
      old e.seats progress
      × HaveNoStep caller stripes targets e.seats progress × HeldInEach e.seats es progress

  -- `calls` is what it has asked outside
  pub record IsRound (old new : List (TableId × View)) (progress later : List KeyProgress) (calls : List Round) : Type 0 where
    pub few : length calls ≤ 1
    pub goes : KeysAdvance old new progress later
    pub held : AreHeldBack (IsFull caller stripes targets old new (length (asked_in calls))) (length targets) caller stripes
        targets old new later
    pub waited : (place : ℕ) (key : Bytes) (op : Op) → slice_get targets place ≡ Some (key, op)
        → is_among (asked_in calls) key ≡ true → slice_get progress place ≡ Some Waiting

abbrev pub with_rounds : CallPast → List Round → CallPast
with_rounds past calls = record past { rounds = past.rounds ++ calls }

pub record HasRun {I J : Type 0} {D : I → Type 0} {E : J → Type 0} (cache : CacheState) (past : CallPast)
    (session : Session I J D E) (call : BulkCall) : Type 0 where
  pub between : IsBetween cache past session call
  pub started : HasStartedAll past.caller cache.config.stripes (ops_of call.targets.now) past.first session.seats.items past.rounds
  pub held : HeldInEach past.caller cache.config.stripes (ops_of call.targets.now) past.first started.ends call.progress.items
  pub first : IsFirst cache.config past.caller (ops_of call.targets.now) past.first [] started.ends call.cause

abbrev pub EachTakesMemory : Config → List (Bytes × Op) → Type 0
EachTakesMemory config targets =
    (place : ℕ) (key : Bytes) (op : Op) → slice_get targets place ≡ Some (key, op) → TakesMemory config op

-- 2. The call.

abbrev pub near_places : ℕ
near_places = STEP_PLACES * RESERVATIONS_MAX + JOINERS_MAX + STEP_PLACES

abbrev pub IsNearFull : Caller → State → Type 0
IsNearFull caller state =
    (state.config.history < length state.history + near_places) ⊎ (last_number ≤ caller.call) ⊎ (last_number ≤ state.next)

pub record WasNearFull (caller : Caller) (before after : View) : Type 0 where
  pub seen : State
  pub reached : IsReached seen
  pub same : IsOfSameStripe seen after.noted
  pub since : IsPrefix before.front (whole_history seen)
  pub later : IsPrefix (whole_history seen) after.front
  pub found : HasFound before seen seen after
  pub full : IsNearFull caller seen

-- `old` and `new` are the session before and after
pub record IsCarriedOut {I J : Type 0} {D : I → Type 0} {E : J → Type 0} (cache : CacheState) (old : Session I J D E)
    (targets : List (Bytes × Op)) (ends : List KeyEnd) (rounds : List Round) (new : Session I J D E) : Type 0 where
  pub targets_are : key_ops ends ≡ targets
  pub grown : (i : ℕ) → HasGrown (view_at old.seats.items i) (view_at new.seats.items i)
  pub phases : (i : ℕ)
      → OnlyPhases (next_call old).agent.caller (λ key. is_target_of cache.config.stripes targets key i ≡ true)
      (view_at old.seats.items i) (view_at new.seats.items i)
  pub each : All
      (λ (e : KeyEnd). EndsKey cache.config (next_call old).agent.caller rounds (view_of cache.config.stripes old.seats.items e.key)
      (view_of cache.config.stripes new.seats.items e.key) e.key e.op e.ended) ends
  pub refused : All
      (λ (e : KeyEnd). e.ended ≡ Err HistoryFull
      → WasNearFull (next_call old).agent.caller (view_of cache.config.stripes old.seats.items e.key)
      (view_of cache.config.stripes new.seats.items e.key)) ends
  pub others : (key : Bytes) (i : ℕ) → is_target_of cache.config.stripes targets key i ≡ false
      → steps_of (next_call old).agent.caller key (view_at new.seats.items i).own ≡ []
  pub former : (i : ℕ)
      → former_steps (next_call old).agent.caller (view_at new.seats.items i).own
      ≡ former_steps (next_call old).agent.caller (view_at old.seats.items i).own
  pub asked : AsksEachOnce cache.config targets rounds
  pub started : HasStartedAll (next_call old).agent.caller cache.config.stripes targets old.seats.items new.seats.items rounds
  pub once : AsksAtMostOnce (next_call old).agent.caller cache.config.stripes targets old.seats.items new.seats.items rounds
  pub left : new.agent ≡ record (next_call old).agent { counts = new.agent.counts; hands = new.agent.hands }
