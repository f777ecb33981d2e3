-- For which keys the rounds of a bulk call ask outside: for keys of the call alone, in their order, for none twice.
--     reserved_keys   the keys of these reservations, in their order
--     AsksFor         a round asks only for keys of the call, and only for what their operations ask for
--     IsInOrder       a round asks for its keys in the order of the call's
--     AsksEachOnce    the rounds of a call that ask: each asks for at least one key, in order, and no key is asked for twice
--     HasAskedSoFar   as `AsksEachOnce`, for a call that is under way: each key that was asked for is reserved or has ended
use Rattle.std.specs.Prelude.{◌≡◌, ◌==◌, ℕ, List, [], All, true, false, Option, Some, slice_get, map}
use Rattle.std.specs.List.{IsAmong, IsDistinct, filter}
use Rattle.std.specs.Map.{keys_of}
use Rattle.std.specs.Cmp.Lexicographic.{pointwise}
use Rattle.jc_types.specs.declared.config.Config.{Config}
use Rattle.jc_model.specs.Batches.{is_among}
use Rattle.jc_model.specs.Cache.{Bytes}
use Rattle.jc_model.specs.declared.event.Change.{Change}
use Rattle.jc_model.specs.declared.event.Op.{Op}
use Rattle.jc_batch.specs.Changes.{changes_of}
use Rattle.jc_stripe.specs.declared.ticket.Reservation.{Reservation}
use Rattle.jc_stripe.specs.Refusals.{first_asked}
use Rattle.jc_stripe.specs.Tickets.{asks_loader, asks_processor, change_asked}
use Rattle.jc_rounds.specs.declared.progress.KeyProgress.{KeyProgress}
use Rattle.jc_rounds.specs.KeyProgress.{is_held_back}
use Rattle.jc_rounds.specs.Rounds.{IsShown, KeyRun, LoadAll, ProcessAll, Round, WriteAll, asked_in, keys_asked}

abbrev pub reserved_keys : List Reservation → List Bytes
reserved_keys calls = map (λ (r : Reservation). r.key) calls

abbrev pub AsksFor : Config → List (Bytes × Op) → Round → Type 0
AsksFor config targets (LoadAll r) =
    All (λ (key : Bytes). (op : Op) × (entry : Option Bytes) × IsAmong targets (key, op)
    × (asks_loader (first_asked config op entry) ≡ true)) r.keys
AsksFor config targets (WriteAll r) =
    All (λ (c : Bytes × Option Change). (op : Op) × (entry : Option Bytes) × IsAmong targets (c.0, op)
    × (c.1 ≡ change_asked (first_asked config op entry))) (changes_of r.batch)
AsksFor config targets (ProcessAll r) =
    All (λ (run : KeyRun). (op : Op) × (entry : Option Bytes) × IsAmong targets (run.key, op)
    × (asks_processor (first_asked config op entry) ≡ true) × IsShown (first_asked config op entry) run) r.runs

abbrev pub IsInOrder : List (Bytes × Op) → Round → Type 0
IsInOrder targets round = keys_asked round ≡ filter (is_among (keys_asked round)) (keys_of targets)

pub record AsksEachOnce (config : Config) (targets : List (Bytes × Op)) (rounds : List Round) : Type 0 where
  pub each : All (AsksFor config targets) rounds
  pub some : All (λ (r : Round). keys_asked r ≡ [] → ⊥) rounds
  pub once : IsDistinct (pointwise ◌==◌) (asked_in rounds)
  pub ordered : All (IsInOrder targets) rounds

pub record HasAskedSoFar (config : Config) (targets : List (Bytes × Op)) (rounds : List Round)
    (progress : List KeyProgress) : Type 0 where
  pub asked : AsksEachOnce config targets rounds
  pub over : (place : ℕ) (key : Bytes) (op : Op) → slice_get targets place ≡ Some (key, op) → is_among (asked_in rounds) key ≡ true
      → (p : KeyProgress) × (slice_get progress place ≡ Some p) × (is_held_back p ≡ false)
