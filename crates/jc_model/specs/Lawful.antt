-- When a group is lawful in a cache.
--     inserts         the step's key is missing before it and there after it
--     victim_fits     lawful eviction before the step: from a full stripe, another key that is there, for a step that inserts
--     evicted_fits    lawful eviction after the step: the entry that it inserted goes, out of memory or from a full stripe that
--                     gave no other key
--     loads_whole     the operations that load a key whole, so that a `Get` may join them: `Get` and `LoadAll`
--     is_joinable     shared step: others may share the load of a `Get` or `LoadAll` that found its key missing, with
--                     read-through on
--     joined_fits     nobody shares the step's load, or it may be shared
--     IsLawfulStep    holds when the step is made: it is a sequential step, and its victim is lawful
--     IsLawful        holds when the group ends: its step, those that share its load, and its eviction are lawful, and no more
--                     entries than fit are left
--     IsLawfulPart    a group is lawful, or an invalidated key that is evicted has an entry
--     AreLawful       each part is lawful in the cache that those before it leave
use Rattle.std.specs.Prelude.{◌==◌, ◌≤◌, List, [], ◌∷◌, Bool, true, false, not, ◌&&◌, IsTrue, Option, None, Some, is_some, is_none}
use Rattle.std.specs.Cmp.Lexicographic.{pointwise}
use Rattle.std.specs.FinMap.{len}
use Rattle.jc_types.specs.declared.caller.Caller.{Caller}
use Rattle.jc_types.specs.declared.config.Config.{Config}
use Rattle.jc_model.specs.declared.event.Op.{Op}
use Rattle.jc_model.specs.declared.event.OpKind.TheVariants as kind
use Rattle.jc_model.specs.declared.event.Cause.{Cause}
use Rattle.jc_model.specs.declared.event.Cause.TheVariants.{Full, Memory, Invalidated}
use Rattle.jc_model.specs.Cache.{Bytes, Cache, entry_at}
use Rattle.jc_model.specs.Table.{Seq, seq_entry, is_load_given, op_kind}
use Rattle.jc_model.specs.Group.{Group, Part, Made, Dropped, cache_before_step, cache_after_step, cache_after_group}
use Rattle.jc_model.specs.Group.{cache_after_part}

abbrev pub inserts : Cache → Group → Bool
inserts cache group =
    is_none (entry_at (cache_before_step cache group) group.step.key)
    && is_some (seq_entry (cache_before_step cache group) group.step)

abbrev pub victim_fits : Config → Cache → Group → Option Bytes → Bool
victim_fits config cache group None = true
victim_fits config cache group (Some key) =
    (len cache == config.capacity) && is_some (entry_at cache key) && not (pointwise ◌==◌ key group.step.key) && inserts cache group

abbrev pub evicted_fits : Config → Cache → Group → Option Cause → Bool
evicted_fits config cache group None = true
evicted_fits config cache group (Some Memory) = inserts cache group
evicted_fits config cache group (Some Invalidated) = false
evicted_fits config cache group (Some Full) = inserts cache group && (len cache == config.capacity) && is_none group.victim

-- the operations that load a key whole, so that a `Get` may join them
abbrev pub loads_whole : Op → Bool
loads_whole op = elim (op_kind op) [
  | kind.Get ↦ true
  | kind.LoadAll replace ↦ true
  | kind.ContainsKey ↦ false
  | kind.Write ↦ false
  | kind.Clear ↦ false
  | kind.Invoke ↦ false
]

abbrev pub is_joinable : Config → Cache → Group → Bool
is_joinable config cache group =
    config.read_through && loads_whole group.step.op && is_none (entry_at (cache_before_step cache group) group.step.key)
    && is_load_given group.step.out.load

abbrev pub joined_fits : Config → Cache → Group → List Caller → Bool
joined_fits config cache group [] = true
joined_fits config cache group (caller ∷ callers) = is_joinable config cache group

pub record IsLawfulStep (config : Config) (cache : Cache) (group : Group) : Type 0 where
  pub seq : Seq config (cache_before_step cache group) group.step (cache_after_step cache group)
  pub victim : IsTrue (victim_fits config cache group group.victim)

pub record IsLawful (config : Config) (cache : Cache) (group : Group) : Type 0 where
  pub step : IsLawfulStep config cache group
  pub joined : IsTrue (joined_fits config cache group group.joined)
  pub evicted : IsTrue (evicted_fits config cache group group.evicted)
  pub within : len (cache_after_group cache group) ≤ config.capacity

abbrev pub IsLawfulPart : Config → Cache → Part → Type 0
IsLawfulPart config cache (Made group) = IsLawful config cache group
IsLawfulPart config cache (Dropped key) = IsTrue (is_some (entry_at cache key))

abbrev pub AreLawful : Config → Cache → List Part → Type 0
AreLawful config cache [] = Unit {0}
AreLawful config cache (part ∷ parts) = IsLawfulPart config cache part × AreLawful config (cache_after_part cache part) parts
