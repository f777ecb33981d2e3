-- A round starts every key that it can.
--     IsRoomFor        room for all these keys, or for one more than all stripes may have out
--     AreManyJoined    between these views more keys have joined loads than all stripes together may have joiners
--     IsFull           a round has asked for more keys than all stripes may have reserved, or `AreManyJoined`
--     HaveJoined       each key that has joined a load has done so between these views
--     IsPutOff         a key that a round leaves waiting: it was put off in the round, or has joined a load that was withdrawn,
--                      or the round was full
--     RoundEnd         the call outside of a round, if it made one, and what the session has seen of each stripe after the round
--     rounds_asked     the calls outside of these rounds
--     seats_after      what the session has seen after these rounds
--     StartsAll        a round starts all it can: it has put off each key for which these later rounds ask. After it there is
--                      one step of the call at each key for which it has asked, and none at the later rounds' keys
--     EachStartsAll    each of these rounds starts all it can
--     HasStartedAll    the calls outside of a call were made in such rounds
--     IsLeftAlone      none of the keys met another call's reservation or load, or a stripe with as many calls under way as it
--                      may have
--     AsksAtMostOnce   a call that was left alone, with no more keys than all stripes may have reserved, asks outside once, if at
--                      all
use Rattle.std.specs.Prelude.{◌≡◌, ◌==◌, ◌≤◌, ◌<◌, ◌*◌, ◌⊎◌, ℕ, List, [], ◌∷◌, length, true, Some, slice_get}
use Rattle.std.specs.List.{AllByRecursion, IsAmong, IsDistinct, flat_map}
use Rattle.std.specs.Cmp.Lexicographic.{pointwise}
use Rattle.atomic_table.specs.Seated.{TableId}
use Rattle.jc_types.specs.declared.caller.Caller.{Caller}
use Rattle.jc_types.specs.declared.limits.TheConstants.{JOINERS_MAX, RESERVATIONS_MAX}
use Rattle.jc_model.specs.Batches.{is_among}
use Rattle.jc_model.specs.Cache.{Bytes}
use Rattle.jc_model.specs.declared.event.Event.{Event}
use Rattle.jc_model.specs.declared.event.Op.{Op}
use Rattle.jc_model.specs.declared.event.Op.TheVariants.{Get}
use Rattle.jc_lock.specs.declared.view.View.{View}
use Rattle.jc_rounds.specs.declared.progress.KeyProgress.{KeyProgress}
use Rattle.jc_rounds.specs.declared.progress.KeyProgress.TheVariants.{Joined}
use Rattle.jc_rounds.specs.Keys.{HasJoined, IsHeldBack}
use Rattle.jc_rounds.specs.Recorded.{steps_of}
use Rattle.jc_rounds.specs.Rounds.{Round, asked_in}
use Rattle.jc_rounds.specs.Seats.{HasGrown, view_at, view_of}

-- `most` is how many of them a stripe may have out
abbrev pub IsRoomFor : ℕ → ℕ → ℕ → ℕ → Type 0
IsRoomFor most keys stripes room = (keys ≤ room) ⊎ (most * stripes < room)

pub record AreManyJoined (caller : Caller) (stripes : ℕ) (targets : List (Bytes × Op))
    (old new : List (TableId × View)) : Type 0 where
  pub joined : List Bytes
  pub distinct : IsDistinct (pointwise ◌==◌) joined
  pub many : JOINERS_MAX * stripes < length joined
  pub each : AllByRecursion
      (λ (key : Bytes). IsAmong targets (key, Get) × HasJoined caller (view_of stripes old key) (view_of stripes new key) key Get)
      joined

-- `old` and `new` are the seats before and after the round, `asked` is for how many keys it has asked
abbrev pub IsFull : Caller → ℕ → List (Bytes × Op) → List (TableId × View) → List (TableId × View) → ℕ → Type 0
IsFull caller stripes targets old new asked = (RESERVATIONS_MAX * stripes < asked) ⊎ AreManyJoined caller stripes targets old new

abbrev pub HaveJoined : Caller → ℕ → List (Bytes × Op) → List (TableId × View) → List (TableId × View) → List KeyProgress → Type 0
HaveJoined caller stripes targets old new progress =
    (place : ℕ) (key : Bytes) (op : Op) → slice_get targets place ≡ Some (key, op) → slice_get progress place ≡ Some Joined
    → (op ≡ Get) × HasJoined caller (view_of stripes old key) (view_of stripes new key) key op

pub record RoundEnd : Type 0 where
  pub calls : List Round
  pub seats : List (TableId × View)

abbrev pub rounds_asked : List RoundEnd → List Round
rounds_asked ends = flat_map (λ (e : RoundEnd). e.calls) ends

abbrev pub seats_after : List (TableId × View) → List RoundEnd → List (TableId × View)
seats_after old [] = old
seats_after old (e ∷ es) = seats_after e.seats es

module _ (caller : Caller) (stripes : ℕ) (targets : List (Bytes × Op)) where
  abbrev pub IsPutOff : ℕ → List (TableId × View) → List (TableId × View) → Bytes → Op → Type 0
  IsPutOff asked old new key op =
      IsFull caller stripes targets old new asked ⊎ IsHeldBack caller (view_of stripes old key) (view_of stripes new key) key op

  -- `old` is what the session had seen before the round
  pub record StartsAll (old : List (TableId × View)) (e : RoundEnd) (later : List Round) : Type 0 where
    pub few : length e.calls ≤ 1
    pub grown : (i : ℕ) → HasGrown (view_at old i) (view_at e.seats i)
    pub ended : (key : Bytes) (op : Op) → IsAmong targets (key, op) → is_among (asked_in e.calls) key ≡ true
        → (step : Event) × (steps_of caller key (view_of stripes e.seats key).own ≡ step ∷ [])
    pub no_step : (key : Bytes) (op : Op) → IsAmong targets (key, op) → is_among (asked_in later) key ≡ true
        → steps_of caller key (view_of stripes e.seats key).own ≡ []
    pub put_off : (key : Bytes) (op : Op) → IsAmong targets (key, op) → is_among (asked_in later) key ≡ true
        → IsPutOff (length (asked_in e.calls)) old e.seats key op

  abbrev pub EachStartsAll : List (TableId × View) → List RoundEnd → Type 0
  EachStartsAll old [] = Unit {0}
  EachStartsAll old (e ∷ es) = StartsAll old e (rounds_asked es) × EachStartsAll e.seats es

  pub record HasStartedAll (old new : List (TableId × View)) (rounds : List Round) : Type 0 where
    pub ends : List RoundEnd
    pub calls_are : rounds_asked ends ≡ rounds
    pub seats_are : seats_after old ends ≡ new
    pub each : EachStartsAll old ends

  abbrev pub IsLeftAlone : List (TableId × View) → List (TableId × View) → Type 0
  IsLeftAlone old new =
      (key : Bytes) (op : Op) → IsAmong targets (key, op)
      → IsHeldBack caller (view_of stripes old key) (view_of stripes new key) key op → ⊥

  abbrev pub AsksAtMostOnce : List (TableId × View) → List (TableId × View) → List Round → Type 0
  AsksAtMostOnce old new rounds = length targets ≤ RESERVATIONS_MAX * stripes → IsLeftAlone old new → length rounds ≤ 1
