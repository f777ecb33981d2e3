-- Reading a history event by event: what may come next, in each phase of a group.
use Rattle.std.specs.Prelude.{◌≡◌, ◌⊎◌, ℕ, ◌+◌, List, [], ◌∷◌, ◌++◌, length, Option, None, Some, is_some, IsTrue}
use Rattle.std.specs.FinMap.{remove}
use Rattle.jc_types.specs.declared.config.Config.{Config}
use Rattle.jc_types.specs.declared.caller.Caller.{Caller}
use Rattle.jc_model.specs.declared.event.Cause.{Cause}
use Rattle.jc_model.specs.declared.event.Cause.TheVariants.{Full, Memory, Invalidated}
use Rattle.jc_model.specs.declared.event.Event.{Event}
use Rattle.jc_model.specs.declared.event.Event.TheVariants.{Step, Evict}
use Rattle.jc_model.specs.Cache.{Bytes, Cache, entry_at}
use Rattle.jc_model.specs.Group.{Group, events_of, step_place, shared_event, cache_after_group}
use Rattle.jc_model.specs.Lawful.{IsLawful}
use Rattle.jc_model.specs.Reader.{read_group}

-- where a reader stands: between two groups, behind a group's victim, or behind a group's step and some of its joined steps.
-- The cache is that before the group, and the place that of the group's first event
pub data Phase : Type 0 where
  Between : (place : ℕ) → (cache : Cache) → Phase
  Chosen : (place : ℕ) → (cache : Cache) → (key : Bytes) → Phase
  Open : (place : ℕ) → (cache : Cache) → (group : Group) → Phase

abbrev pub with_joined : Group → Caller → Group
with_joined group caller = record group { joined = group.joined ++ caller ∷ [] }

abbrev pub with_evicted : Group → Cause → Group
with_evicted group cause = record group { evicted = Some cause }

-- the place behind a group
abbrev pub behind : ℕ → Group → ℕ
behind place group = place + length (events_of place group)

-- what an event that begins a group leads to
abbrev pub begun : ℕ → Cache → Event → Option Phase
begun place cache (Step caller op key out None reply) = Some (Open place cache (read_group None caller op key out reply))
begun place cache (Step caller op key out (Some other) reply) = None
begun place cache (Evict key Full) = Some (Chosen place cache key)
begun place cache (Evict key Memory) = None
begun place cache (Evict key Invalidated) = None

abbrev pub chosen_begun : ℕ → Cache → Bytes → Event → Option Phase
chosen_begun place cache victim (Step caller op key out None reply) = Some (Open place cache (read_group (Some victim) caller op key out reply))
chosen_begun place cache victim (Step caller op key out (Some other) reply) = None
chosen_begun place cache victim (Evict key cause) = None

-- the events may follow in this phase
abbrev pub Reads : Config → Phase → List Event → Type 0
Reads config (Between place cache) [] = Unit {0}
Reads config (Chosen place cache key) [] = ⊥
Reads config (Open place cache group) [] = IsLawful config cache group
Reads config (Between place cache) (e ∷ es) =
    ((phase : Phase) × (begun place cache e ≡ Some phase) × Reads config phase es)
    ⊎ ((key : Bytes) × (e ≡ Evict key Invalidated) × IsTrue (is_some (entry_at cache key)) × Reads config (Between (place + 1) (remove cache key)) es)
Reads config (Chosen place cache key) (e ∷ es) = (phase : Phase) × (chosen_begun place cache key e ≡ Some phase) × Reads config phase es
Reads config (Open place cache group) (e ∷ es) =
    ((caller : Caller) × (e ≡ shared_event (step_place place group) group.step.key group.step.out.load caller) × Reads config (Open place cache (with_joined group caller)) es)
    ⊎ (((cause : Cause) × (e ≡ Evict group.step.key cause) × IsLawful config cache (with_evicted group cause) × Reads config (Between (behind place (with_evicted group cause)) (cache_after_group cache (with_evicted group cause))) es)
    ⊎ (((phase : Phase) × (begun (behind place group) (cache_after_group cache group) e ≡ Some phase) × IsLawful config cache group × Reads config phase es)
    ⊎ ((key : Bytes) × (e ≡ Evict key Invalidated) × IsLawful config cache group × IsTrue (is_some (entry_at (cache_after_group cache group) key)) × Reads config (Between (behind place group + 1) (remove (cache_after_group cache group) key)) es)))
