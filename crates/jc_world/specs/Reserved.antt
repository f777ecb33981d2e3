-- What stays in a world, as laws over every run: the order and the cache while nothing is appended, and the entry of a key while
-- the key is reserved.
--     changes_cache     an outcome is a step's answer, which was given as the step was appended, names the eviction of an
--                       invalidated key, or says that the cache was opened again
--     OnlyStepsChange   an event that neither appends a step, nor evicts an invalidated key, nor opens the cache again leaves the
--                       order, and all that is cached: so do a reservation, an outside answer, a withdrawal and a pick-up
--     EntryStays        the cached entry of a reserved key stays as long as the reservation is out, whatever happens meanwhile (the
--                       cache isn't opened again then)
use Rattle.std.specs.Prelude.{◌≡◌, List, Bool, true, false, Some, is_some}
use Rattle.std.specs.FinMap.{get}
use Rattle.jc_model.specs.Cache.{Bytes}
use Rattle.jc_world.specs.declared.event.Part.{Part}
use Rattle.jc_world.specs.declared.event.WorldEvent.{WorldEvent}
use Rattle.jc_world.specs.declared.event.Outcome.{Outcome}
use Rattle.jc_world.specs.declared.event.Outcome.TheVariants as outcome
use Rattle.jc_world.specs.declared.event.Shown.{Shown}
use Rattle.jc_world.specs.World.{WorldState, cached_entry}
use Rattle.jc_world.specs.Runs.{Step, Run}
use Rattle.jc_world.specs.Headline.{Reaches}

abbrev pub changes_cache : Outcome → Bool
changes_cache (outcome.Stepped x) = true
changes_cache (outcome.Reopened keys) = true
changes_cache (outcome.Withdrawn evicted) = is_some evicted
changes_cache (outcome.Invalidated evicted) = is_some evicted
changes_cache o = false

abbrev pub OnlyStepsChange : Type 0
OnlyStepsChange =
    (opening : WorldState) (events : List WorldEvent) (seen : List Shown)
    (old new : WorldState) (e : WorldEvent) (s : Shown)
    → Reaches opening events seen old → Step old e s new → changes_cache s.outcome ≡ false
    → (new.order ≡ old.order) × ((key : Bytes) → cached_entry new key ≡ cached_entry old key)

-- the part of a key names its reservation: it is out in both worlds
abbrev pub EntryStays : Type 0
EntryStays =
    (opening : WorldState) (before after : List WorldEvent)
    (seen_before seen_after : List Shown) (old new : WorldState) (key : Bytes) (was is : Part)
    → Reaches opening before seen_before old → Run old after seen_after new
    → get old.parts key ≡ Some was → get new.parts key ≡ Some is → is.reservation ≡ was.reservation
    → cached_entry new key ≡ cached_entry old key
