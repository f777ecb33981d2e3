-- Events in groups. A group is one step with all that belongs to it.
--     Group                    at most one eviction from a full stripe, a step, the callers that share its load, at most one
--                              eviction of its key
--     nothing_said             the outside answers of a step that asks nobody
--     load_only, write_only    the outside answers if the loader alone answers, and if the writer alone does
--     victim_events            the eviction before a step, if there is one
--     evicted_events           the eviction of a step's own key after it, if there is one
--     step_event               the event of a group's step
--     shared_event             the shared step of a caller: a `Get` of the same key, which names the step's place, and whose
--                              reply is what its loader answered
--     step_place               the place of a group's step, from the place at which the group begins
--     events_of                the events of a group that begins at a place
--     Part                     a part of a history: a group, or the eviction of an invalidated key
--     part_events              the events of a part that begins at a place
--     history_of               the events of a list of parts that begins at a place
--     without_victim           a cache without the key that is evicted, if one is
--     cache_before_step        the cache in which a group's step is made: without the group's victim
--     cache_after_step         the cache after the step of a group
--     without_own              a cache without the step's own key, if that key is evicted
--     cache_after_group        the cache after a whole group
--     cache_after_part         the cache after a part
--     cache_after_parts        the cache after a list of parts
use Rattle.std.specs.Prelude.{ℕ, ◌+◌, List, [], ◌∷◌, ◌++◌, length, map, Option, None, Some}
use Rattle.std.specs.FinMap.{remove}
use Rattle.jc_types.specs.declared.caller.Caller.{Caller}
use Rattle.jc_model.specs.declared.event.Op.TheVariants.{Get}
use Rattle.jc_model.specs.declared.event.Out.{Out}
use Rattle.jc_model.specs.declared.event.LoadAnswer.{LoadAnswer}
use Rattle.jc_model.specs.declared.event.LoadAnswer.TheVariants as load
use Rattle.jc_model.specs.declared.event.WriteAnswer.{WriteAnswer}
use Rattle.jc_model.specs.declared.event.WriteAnswer.TheVariants as write
use Rattle.jc_model.specs.declared.event.ProcessAnswer.TheVariants as process
use Rattle.jc_model.specs.declared.event.Cause.{Cause}
use Rattle.jc_model.specs.declared.event.Cause.TheVariants.{Full, Invalidated}
use Rattle.jc_model.specs.declared.event.Event.{Event}
use Rattle.jc_model.specs.declared.event.Event.TheVariants.{Step, Evict}
use Rattle.jc_model.specs.Cache.{Bytes, Cache}
use Rattle.jc_model.specs.Table.{NewStep, reply_after, seq_cache}

pub record Group : Type 0 where
  pub victim : Option Bytes  -- evicted directly before the step, since the stripe is full
  pub caller : Caller
  pub step : NewStep  -- the step
  pub joined : List Caller  -- those that share the step's load, in the order of joining
  pub evicted : Option Cause  -- why the step's key is evicted directly after, if it is

-- 1. Outside answers.

-- nobody was asked
abbrev pub nothing_said : Out
nothing_said = record { load = load.NotAsked; write = write.NotAsked; process = process.NotAsked }

-- the load answer alone
abbrev pub load_only : LoadAnswer → Out
load_only answer = record { load = answer; write = write.NotAsked; process = process.NotAsked }

-- the writer's answer alone
abbrev pub write_only : WriteAnswer → Out
write_only answer = record { load = load.NotAsked; write = answer; process = process.NotAsked }

-- 2. The events of a group.

abbrev pub victim_events : Option Bytes → List Event
victim_events None = []
victim_events (Some key) = Evict key Full ∷ []

abbrev pub evicted_events : Bytes → Option Cause → List Event
evicted_events key None = []
evicted_events key (Some cause) = Evict key cause ∷ []

abbrev pub step_event : Group → Event
step_event group = Step group.caller group.step.op group.step.key group.step.out None group.step.reply

-- the shared step of a caller: a `Get` of the key, with the load answer of the step at that place. It found the key missing, so
-- its reply is that answer
abbrev pub shared_event : ℕ → Bytes → LoadAnswer → Caller → Event
shared_event place key answer caller = Step caller Get key (load_only answer) (Some place) (reply_after Get None (load_only answer))

-- the place of the step of a group that begins at a place
abbrev pub step_place : ℕ → Group → ℕ
step_place place group = place + length (victim_events group.victim)

abbrev pub events_of : ℕ → Group → List Event
events_of place group =
    victim_events group.victim ++ step_event group
    ∷ map (shared_event (step_place place group) group.step.key group.step.out.load) group.joined
    ++ evicted_events group.step.key group.evicted

pub data Part : Type 0 where
  Made : (group : Group) → Part
  Dropped : (key : Bytes) → Part

abbrev pub part_events : ℕ → Part → List Event
part_events place (Made group) = events_of place group
part_events place (Dropped key) = Evict key Invalidated ∷ []

abbrev pub history_of : ℕ → List Part → List Event
history_of place [] = []
history_of place (part ∷ parts) = part_events place part ++ history_of (place + length (part_events place part)) parts

-- 3. The cache that a group leaves.

abbrev pub without_victim : Cache → Option Bytes → Cache
without_victim cache None = cache
without_victim cache (Some key) = remove cache key

abbrev pub cache_before_step : Cache → Group → Cache
cache_before_step cache group = without_victim cache group.victim

abbrev pub cache_after_step : Cache → Group → Cache
cache_after_step cache group = seq_cache (cache_before_step cache group) group.step

abbrev pub without_own : Cache → Bytes → Option Cause → Cache
without_own cache key None = cache
without_own cache key (Some cause) = remove cache key

abbrev pub cache_after_group : Cache → Group → Cache
cache_after_group cache group = without_own (cache_after_step cache group) group.step.key group.evicted

abbrev pub cache_after_part : Cache → Part → Cache
cache_after_part cache (Made group) = cache_after_group cache group
cache_after_part cache (Dropped key) = remove cache key

abbrev pub cache_after_parts : Cache → List Part → Cache
cache_after_parts cache [] = cache
cache_after_parts cache (part ∷ parts) = cache_after_parts (cache_after_part cache part) parts
