-- A cache that is closed and opened again, as laws over every run of a world: each run has a last opening, and what that leaves.
--     EndsInReopening   the last one of these events opened the cache again
--     LastOpening       a run has a last opening, and is a run from there that opens nothing again: the world at its begin, or the
--                       one that its last reopening left
--     HasLastOpening    every run has one
--     is_dropped        a key is among those that a reopening drops
--     IsReopenedWorld   a reopening left an opening in the new shape, with the store and the numbers of calls as they were. Each
--                       stripe opens with what it keeps, in this order of use. Each key has the entry that it had, but for those
--                       that are shown, which are dropped. The premises hold then exactly if write-through is on and what is cached
--                       is the store's, but for untold keys
--     ReopensOpen       every reopening does so
--     is_by_others      an event is a write of the store by somebody else
--     StaysUnwritten    if nobody else has written the store since the last opening, that was coherent, and each loader and each
--                       writer was honest, no key is foreign
--     StaysCoherentAlone
--                       and if write-through is on too, it is coherent
use Rattle.std.specs.Prelude.{◌≡◌, ◌==◌, ◌⊎◌, ◌↔◌, ◌++◌, ℕ, List, [], ◌∷◌, slice_get, Bool, true, false, None, Some, if◌then◌else◌}
use Rattle.std.specs.List.{list_any}
use Rattle.std.specs.FinMap.{empty}
use Rattle.std.specs.Cmp.Lexicographic.{pointwise}
use Rattle.jc_types.specs.declared.config.Config.{Config}
use Rattle.jc_model.specs.Cache.{Bytes}
use Rattle.jc_stripe.specs.State.{State}
use Rattle.jc_stripe.specs.Reopening.{all_entries, kept}
use Rattle.jc_world.specs.declared.event.WorldEvent.{WorldEvent}
use Rattle.jc_world.specs.declared.event.WorldEvent.TheVariants as event
use Rattle.jc_world.specs.declared.event.Outcome.TheVariants as outcome
use Rattle.jc_world.specs.declared.event.Shown.{Shown}
use Rattle.jc_world.specs.World.{WorldState, cached_entry}
use Rattle.jc_world.specs.Runs.{Run, Step}
use Rattle.jc_world.specs.Reopening.{keys_dropped}
use Rattle.jc_world.specs.Fits.{fits}
use Rattle.jc_world.specs.Premises.{are_honest}
use Rattle.jc_world.specs.Coherent.{Coherent, CoherentAsTold, all_hold}
use Rattle.jc_world.specs.Headline.{IsOpeningWorld, Reaches, ReachesSince, is_reopening}

-- 1. The last opening of a run.

pub record EndsInReopening (events : List WorldEvent) (seen : List Shown) : Type 0 where
  pub before : List WorldEvent
  pub shown : List Shown
  pub config : Config
  pub last : Shown
  pub events_are : events ≡ before ++ event.Reopen config ∷ []
  pub seen_are : seen ≡ shown ++ last ∷ []
  pub reopening : is_reopening last.outcome ≡ true

-- `before` are the events up to the last opening, and `since` those after it
pub record LastOpening (first : WorldState) (events : List WorldEvent) (seen : List Shown)
    (new : WorldState) : Type 0 where
  pub before : List WorldEvent
  pub since : List WorldEvent
  pub shown_before : List Shown
  pub shown_since : List Shown
  pub opening : WorldState
  pub events_are : events ≡ before ++ since
  pub seen_are : seen ≡ shown_before ++ shown_since
  pub run : Run first before shown_before opening
  pub reached : ReachesSince opening since shown_since new
  pub which : ((before ≡ []) × (opening ≡ first)) ⊎ EndsInReopening before shown_before

abbrev pub HasLastOpening : Type 0
HasLastOpening =
    (first : WorldState) (events : List WorldEvent) (seen : List Shown) (new : WorldState)
    → Reaches first events seen new → LastOpening first events seen new

-- 2. What a reopening leaves.

abbrev pub is_dropped : Config → WorldState → Bytes → Bool
is_dropped config old key = list_any (pointwise ◌==◌ key) (keys_dropped config old)

pub record IsReopenedWorld (config : Config) (old : WorldState) (s : Shown) (new : WorldState) : Type 0 where
  pub opens : IsOpeningWorld new
  pub config_is : new.config ≡ config
  pub store_is : new.store ≡ old.store
  pub last_is : new.last ≡ old.last
  pub kept_are : (number : ℕ) (stripe : State) → slice_get new.stripes number ≡ Some stripe
      → stripe.opening ≡ kept config number (all_entries old.stripes)
  pub dropped_are : s.outcome ≡ outcome.Reopened (keys_dropped config old)
  pub entries_are : (key : Bytes)
      → cached_entry new key ≡ (if is_dropped config old key then None else cached_entry old key)
  pub premises : all_hold new ≡ true ↔ (config.write_through ≡ true) × CoherentAsTold new

abbrev pub ReopensOpen : Type 0
ReopensOpen =
    (first : WorldState) (events : List WorldEvent) (seen : List Shown) (old new : WorldState)
    (config : Config) (s : Shown)
    → Reaches first events seen old → fits old (event.Reopen config) ≡ true
    → Step old (event.Reopen config) s new → IsReopenedWorld config old s new

-- 3. Nobody else has written the store since the last opening.

abbrev pub is_by_others : WorldEvent → Bool
is_by_others (event.Foreign key value) = true
is_by_others e = false

abbrev pub StaysUnwritten : Type 0
StaysUnwritten =
    (first : WorldState) (events : List WorldEvent) (seen : List Shown) (new : WorldState)
    (last : LastOpening first events seen new)
    → Reaches first events seen new → first.foreign ≡ empty
    → Coherent last.opening → list_any is_by_others last.since ≡ false
    → are_honest new.premises ≡ true → new.foreign ≡ empty

abbrev pub StaysCoherentAlone : Type 0
StaysCoherentAlone =
    (first : WorldState) (events : List WorldEvent) (seen : List Shown) (new : WorldState)
    (last : LastOpening first events seen new)
    → Reaches first events seen new → first.foreign ≡ empty
    → Coherent last.opening → list_any is_by_others last.since ≡ false
    → are_honest new.premises ≡ true → all_hold new ≡ true → Coherent new
