-- The headline, as laws over every run of a world: the order of all events is one legal history from the last opening on, and with
-- write-through on the world stays coherent, but for untold keys.
--     IsOpeningStripe   nothing has happened in a stripe yet, and what it caches is its opening
--     IsOpeningWorld    nothing has happened in a world yet. Its stripes may cache entries from before, and its store has any; the
--                       premises are taken to hold only if the one agrees with the other
--     start_with        a world at its start, with nothing cached and these values in its store
--     StartsOpen        such a world is an opening
--     Reaches           after a list of events, which showed a list, an opening world is at this state
--     is_reopening      an outcome says that the cache was opened again
--     reopens           one of these does
--     ReachesSince      after a list of events, of which none opened it again, an opening world is at this state
--     StaysLegal        after every list of events the order is one legal history from what the cache opened with last, what is
--                       cached is what it leaves, and each stripe's history is its part of the order
--     StaysCoherent     after every list of events, if write-through is on, and the last opening was coherent but for foreign keys,
--                       the world is coherent, but for untold keys
--     with_all_premises  a world in which the premises have held so far, and these are the foreign keys, whatever came before
--     StaysCoherentFrom from any world that is reached and coherent but for some keys, in which no key is reserved: after every
--                       list of events, with write-through on, the world is coherent, but for those of these keys that are untold,
--                       and of those that are foreign since
--     is_answer         an event is an answer of the loader for a key, and was taken, by its outcome
--     is_load           an event is a step of a key that had the loader asked, and isn't shared
--     is_loaded         an answer of the loader is kept for the commit
--     CountsLoads       after every list of events since the last opening, the answers that loaders gave for a key are as many as
--                       its steps that had the loader asked and aren't shared, and the answer that is kept for a commit, together
use Rattle.std.specs.Prelude.{◌≡◌, ◌==◌, ◌+◌, ◌&&◌, ℕ, List, length, slice_get, [], ◌∷◌, zip, count_by, Bool, true, false, Option}
use Rattle.std.specs.Prelude.{None, Some, Ok, if◌then◌else◌}
use Rattle.std.specs.List.{list_any}
use Rattle.std.specs.Cmp.Lexicographic.{pointwise}
use Rattle.std.specs.FinMap.{get, empty}
use Rattle.jc_types.specs.declared.config.Config.{Config}
use Rattle.jc_types.specs.Limits.{check}
use Rattle.jc_model.specs.declared.event.Event.{Event}
use Rattle.jc_model.specs.declared.event.Event.TheVariants as stripe
use Rattle.jc_model.specs.Cache.{Bytes, Cache}
use Rattle.jc_model.specs.Table.{is_load_given}
use Rattle.jc_outside.specs.declared.done.Origin.TheVariants.{Played}
use Rattle.jc_stripe.specs.State.{State}
use Rattle.jc_stripe.specs.Reached.{IsOpened}
use Rattle.jc_world.specs.declared.event.Part.{Part}
use Rattle.jc_world.specs.declared.event.WorldEvent.{WorldEvent}
use Rattle.jc_world.specs.declared.event.WorldEvent.TheVariants as event
use Rattle.jc_world.specs.declared.event.Outcome.{Outcome}
use Rattle.jc_world.specs.declared.event.Outcome.TheVariants as outcome
use Rattle.jc_world.specs.declared.event.Shown.{Shown}
use Rattle.jc_world.specs.World.{WorldState, start, out_of_part, with_stored, cached_entry}
use Rattle.jc_world.specs.Runs.{Run}
use Rattle.jc_world.specs.Coherent.{CoherentAsTold, all_hold}
use Rattle.jc_world.specs.Audit.{IsOrder, HasShares}

-- 1. Openings.

-- nothing has happened in a stripe yet
pub record IsOpeningStripe (config : Config) (number : ℕ) (s : State) : Type 0 where
  pub config_is : s.config ≡ config
  pub number_is : s.stripe ≡ number
  pub origin_is : s.origin ≡ Played
  pub opened : IsOpened s

-- nothing has happened in a world yet
pub record IsOpeningWorld (w : WorldState) : Type 0 where
  pub config_fits : check w.config ≡ Ok tt
  pub count : length w.stripes ≡ w.config.stripes
  pub each : (number : ℕ) (s : State) → slice_get w.stripes number ≡ Some s
      → IsOpeningStripe w.config number s
  pub order : w.order ≡ []
  pub calls : w.calls ≡ []
  pub parts : w.parts ≡ empty
  pub joins : w.joins ≡ empty
  pub cold : w.is_fresh ≡ true → (key : Bytes) → cached_entry w key ≡ None
  pub coherent : all_hold w ≡ true → CoherentAsTold w

-- a world at its start, with nothing cached and these values in its store
abbrev pub start_with : Config → List (Bytes × Bytes) → WorldState
start_with config [] = start config
start_with config (entry ∷ entries) = with_stored (start_with config entries) entry.0 entry.1

-- which is an opening
abbrev pub StartsOpen : Type 0
StartsOpen =
    (config : Config) (stored : List (Bytes × Bytes))
    → check config ≡ Ok tt → IsOpeningWorld (start_with config stored)

-- after these events, which showed this, an opening world is at `new`
abbrev pub Reaches : WorldState → List WorldEvent → List Shown → WorldState → Type 0
Reaches opening events seen new = IsOpeningWorld opening × Run opening events seen new

-- 2. Runs that open nothing again.

abbrev pub is_reopening : Outcome → Bool
is_reopening (outcome.Reopened keys) = true
is_reopening o = false

abbrev pub reopens : List Shown → Bool
reopens seen = list_any (λ s. is_reopening s.outcome) seen

-- and none of them opened it again
abbrev pub ReachesSince : WorldState → List WorldEvent → List Shown → WorldState → Type 0
ReachesSince opening events seen new = Reaches opening events seen new × (reopens seen ≡ false)

-- 3. The laws.

abbrev pub StaysLegal : Type 0
StaysLegal =
    (opening : WorldState) (events : List WorldEvent) (seen : List Shown) (new : WorldState)
    → Reaches opening events seen new → IsOrder new × HasShares new

abbrev pub StaysCoherent : Type 0
StaysCoherent =
    (opening : WorldState) (events : List WorldEvent) (seen : List Shown) (new : WorldState)
    → Reaches opening events seen new → all_hold new ≡ true → CoherentAsTold new

abbrev pub with_all_premises : Cache → WorldState → WorldState
with_all_premises foreign w =
    record w {
      foreign = foreign;
      premises = record { writers = true; loaders = true; opening = true };
    }

abbrev pub StaysCoherentFrom : Type 0
StaysCoherentFrom =
    (opening : WorldState) (before events : List WorldEvent) (seen_before seen : List Shown)
    (from new : WorldState) (foreign : Cache)
    → Reaches opening before seen_before from
    → ((key : Bytes) → get from.parts key ≡ None) → CoherentAsTold (with_all_premises foreign from)
    → Run (with_all_premises foreign from) events seen new → all_hold new ≡ true
    → CoherentAsTold new

-- an answer of the loader for a key, which was taken
abbrev pub is_answer : Bytes → WorldEvent → Outcome → Bool
is_answer key (event.Read call k) (outcome.Reads answer) = pointwise ◌==◌ key k
is_answer key (event.Say call k said) (outcome.Says answer) = pointwise ◌==◌ key k
is_answer key (event.Process call k source calls fail) (outcome.Processed x) =
    pointwise ◌==◌ key k && is_load_given x.load
is_answer key e o = false

-- a step of a key that has an answer of the loader, which it shares with no step before it
abbrev pub is_load : Bytes → Event → Bool
is_load key (stripe.Step caller op k out None reply) =
    pointwise ◌==◌ key k && is_load_given out.load
is_load key (stripe.Step caller op k out (Some place) reply) = false
is_load key (stripe.Evict k cause) = false

-- an answer of the loader is kept for the commit
abbrev pub is_loaded : Option Part → Bool
is_loaded None = false
is_loaded (Some part) = is_load_given (out_of_part part).load

abbrev pub CountsLoads : Type 0
CountsLoads =
    (opening : WorldState) (events : List WorldEvent) (seen : List Shown) (new : WorldState)
    (key : Bytes)
    → ReachesSince opening events seen new
    → count_by (λ (e : WorldEvent × Shown). is_answer key e.0 e.1.outcome) (zip events seen)
    ≡ count_by (is_load key) new.order + (if is_loaded (get new.parts key) then 1 else 0)
