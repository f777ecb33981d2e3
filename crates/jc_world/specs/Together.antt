-- Events of one call of a world that follow each other, as one line of a script stands for them: those at the call's begin, and
-- those at several of its keys. Two laws say when they all fit.
--     looks              looks of a call at as many stripes, from a number on
--     looks_of           the looks that follow the begin of a call: at all stripes, if it takes the keys that are cached, else none
--     opening_events     the begin of a call, and its looks
--     BeginFits          if a call fits, so do its looks after it, and then it is free of every key
--     at_call            a key, if a number is this call's
--     key_at             the key of this call at which an event is, if it is at one. It is none for a writer's change of the store:
--                        in an `invokeAll` a change waits for the processors of the call's other keys
--     FitTogether        what fits at keys that differ fits one after the other: events of one kind that isn't a change; the
--                        writer's return after its changes of the store; a call's leaving after the withdrawals of all that it has
--                        reserved
use Rattle.std.specs.Prelude.{◌≡◌, ◌==◌, ◌||◌, ◌+◌, ℕ, zero, suc, List, [], ◌∷◌, ◌++◌, map, true, Option, None, Some, is_some}
use Rattle.std.specs.Prelude.{if◌then◌else◌}
use Rattle.std.specs.List.{IsDistinct, list_all}
use Rattle.std.specs.Cmp.Lexicographic.{pointwise}
use Rattle.jc_model.specs.Batches.{is_among}
use Rattle.jc_model.specs.Cache.{Bytes}
use Rattle.jc_world.specs.declared.event.Shown.{Shown}
use Rattle.jc_world.specs.declared.event.WorldEvent.{WorldEvent}
use Rattle.jc_world.specs.declared.event.WorldEvent.TheVariants as event
use Rattle.jc_world.specs.Calls.{CallState, new_call, open_keys, sweep_of}
use Rattle.jc_world.specs.declared.command.Command.{Command}
use Rattle.jc_world.specs.declared.command.Command.TheVariants.{Single}
use Rattle.jc_model.specs.declared.event.Op.{Op}
use Rattle.jc_world.specs.World.{WorldState, open_call}
use Rattle.jc_world.specs.Fits.{fits, is_free}
use Rattle.jc_world.specs.Runs.{AllFit, Run}

-- 1. How a call begins.

abbrev pub looks : ℕ → ℕ → ℕ → List WorldEvent
looks call from zero = []
looks call from (suc count) = event.Look call from ∷ looks call (from + 1) count

abbrev pub looks_of : ℕ → Command → ℕ → List WorldEvent
looks_of call command stripes = if is_some (sweep_of command) then looks call 0 stripes else []

abbrev pub opening_events : ℕ → ℕ → Command → ℕ → List WorldEvent
opening_events call session command stripes =
    event.Call call session command ∷ looks_of call command stripes

-- it has reserved no key yet, and joined no load
pub record BeginFits (w : WorldState) : Type 0 where
  pub opening : (call session : ℕ) (command : Command)
      → fits w (event.Call call session command) ≡ true
      → AllFit w (opening_events call session command w.config.stripes)
  pub free : (call session : ℕ) (command : Command) (seen : List Shown) (begun : WorldState)
      (key : Bytes) → fits w (event.Call call session command) ≡ true
      → Run w (opening_events call session command w.config.stripes) seen begun
      → is_free begun call key ≡ true
  -- a call of one key then has it open
  pub underway : (call session : ℕ) (op : Op) (key : Bytes) (seen : List Shown) (begun : WorldState)
      → fits w (event.Call call session (Single op key)) ≡ true
      → Run w (event.Call call session (Single op key) ∷ []) seen begun
      → open_call begun call ≡ Some (new_call call session (Single op key))

-- 2. What follows at keys that differ.

-- an event of a call with another number is at no key of this call
abbrev pub at_call : ℕ → ℕ → Bytes → Option Bytes
at_call call other key = if other == call then Some key else None

abbrev pub key_at : ℕ → WorldEvent → Option Bytes
key_at call (event.Call other session command) = None
key_at call (event.Look other stripe) = None
key_at call (event.Start other key) = at_call call other key
key_at call (event.Read other key) = at_call call other key
key_at call (event.Say other key answer) = at_call call other key
key_at call (event.Change other key) = None
key_at call (event.Report other left fault) = None
key_at call (event.Process other key source calls fail) = at_call call other key
key_at call (event.Commit other key) = at_call call other key
key_at call (event.Withdraw other key) = at_call call other key
key_at call (event.Leave other) = None
key_at call (event.PickUp other key) = at_call call other key
key_at call (event.Foreign key value) = None
key_at call (event.Invalidate key) = None
key_at call (event.Reopen config) = None

-- of keys that differ
pub record FitTogether (w : WorldState) : Type 0 where
  pub events : (call : ℕ) (event_of : Bytes → WorldEvent) (keys : List Bytes)
      → ((key : Bytes) → key_at call (event_of key) ≡ Some key)
      → IsDistinct (pointwise ◌==◌) keys
      → list_all (fits w) (map event_of keys) ≡ true → AllFit w (map event_of keys)
  pub report : (call : ℕ) (keys left : List Bytes) (fault : Option ℕ)
      → IsDistinct (pointwise ◌==◌) keys
      → list_all (fits w) (map (event.Change call) keys) ≡ true
      → fits w (event.Report call left fault) ≡ true
      → AllFit w (map (event.Change call) keys ++ event.Report call left fault ∷ [])
  pub leave : (call : ℕ) (u : CallState) (keys : List Bytes) → open_call w call ≡ Some u
      → IsDistinct (pointwise ◌==◌) keys
      → list_all (fits w) (map (event.Withdraw call) keys) ≡ true
      → list_all (λ key. is_among keys key || is_free w call key) (open_keys u) ≡ true
      → AllFit w (map (event.Withdraw call) keys ++ event.Leave call ∷ [])
