-- How the checker `legal` goes over a history, event by event: what it keeps, and how it tests the next event. A reader of
-- contracts needn't believe it, since `legal` is proved to answer `Legal`. The reader's position is a `Stage`: outside a group,
-- after a group's victim, or after a group's step. No contract of a public function cites this.
--     first_stripe      the stripe of the first key, in the opening or otherwise in the events, and 0 if there is no key
--     are_of_stripe     the keys of the opening and of the events are all of this stripe
--     are_of_one_stripe they are all of one stripe
--     read_group        a group of which the step was read
--     opened_group      what is kept of a group whose step is at a place
--     cause_fits        the step's own key may go for this cause
--     own_goes          this key, for this cause, is the step's own and may go
--     starts_part       an eviction of this key, for this cause, may begin a part: of a victim, or of an invalidated key that has
--                       an entry
--     started_stage,    started_cache    the stage and the cache after such an eviction
--     picked_victim     the victim of the group that comes next, if it was read
--     group_at          the group of a step that is read at a stage
--     is_within         if a group ends here, no more entries are left than fit
--     FitsShared        a shared step may come next
--     fits_evict        an eviction may come next
--     Fits              an event may come next
--     evict_stage,      evict_cache    the stage and the cache after an eviction
--     then_stage,       then_cache      the stage and the cache after an event
--     may_stop          the history may end
--     Accepts           each of the events fits after those before it
--     comes_before      an event is a step of the same session with a lower number than another
use Rattle.std.specs.Prelude.{◌≡◌, ◌==◌, ◌&&◌, ◌||◌, ℕ, ◌+◌, List, [], ◌∷◌, Bool, true, false, IsTrue, Option, None, Some, is_none}
use Rattle.std.specs.Prelude.{is_some, nat_le, nat_lt, if◌then◌else◌}
use Rattle.std.specs.List.{list_all}
use Rattle.std.specs.Cmp.Lexicographic.{pointwise}
use Rattle.std.specs.FinMap.{len, remove}
use Rattle.jc_types.specs.declared.caller.Caller.{Caller}
use Rattle.jc_types.specs.declared.config.Config.{Config}
use Rattle.jc_types.specs.Stripes.{stripe_of}
use Rattle.jc_model.specs.declared.event.Op.{Op}
use Rattle.jc_model.specs.declared.event.Out.{Out}
use Rattle.jc_model.specs.declared.event.Reply.{Reply}
use Rattle.jc_model.specs.declared.event.Cause.{Cause}
use Rattle.jc_model.specs.declared.event.Cause.TheVariants.{Full, Memory, Invalidated}
use Rattle.jc_model.specs.declared.event.Event.{Event}
use Rattle.jc_model.specs.declared.event.Event.TheVariants.{Step, Evict}
use Rattle.jc_model.specs.declared.reader.Opened.{Opened}
use Rattle.jc_model.specs.declared.reader.Stage.{Stage}
use Rattle.jc_model.specs.declared.reader.Stage.TheVariants.{Outside, Picked, Inside}
use Rattle.jc_model.specs.Cache.{Bytes, Cache, entry_at}
use Rattle.jc_model.specs.Group.{Group, shared_event, cache_after_step}
use Rattle.jc_model.specs.Legal.{event_key, is_of_stripe}
use Rattle.jc_model.specs.Lawful.{is_joinable, inserts, IsLawfulStep}

-- the stripe of the first key, in the opening or otherwise in the events, and 0 if there is no key
abbrev pub first_stripe : ℕ → List (Bytes × Bytes) → List Event → ℕ
first_stripe stripes (entry ∷ opening) events = stripe_of entry.0 stripes
first_stripe stripes [] (event ∷ events) = stripe_of (event_key event) stripes
first_stripe stripes [] [] = 0

-- the keys of the opening and of the events are all of this stripe
abbrev pub are_of_stripe : ℕ → ℕ → List (Bytes × Bytes) → List Event → Bool
are_of_stripe stripes stripe opening events =
    list_all (λ entry. stripe_of entry.0 stripes == stripe) opening && list_all (is_of_stripe stripes stripe) events

abbrev pub are_of_one_stripe : ℕ → List (Bytes × Bytes) → List Event → Bool
are_of_one_stripe stripes opening events = are_of_stripe stripes (first_stripe stripes opening events) opening events

-- a group of which the step was read
abbrev pub read_group : Option Bytes → Caller → Op → Bytes → Out → Reply → Group
read_group victim caller op key out reply =
    record {
      victim = victim;
      caller = caller;
      step = record { op = op; key = key; out = out; reply = reply };
      joined = [];
      evicted = None;
    }

-- what is kept of a group whose step is at a place
abbrev pub opened_group : Config → Cache → ℕ → Group → Opened
opened_group config cache place group =
    record {
      place = place;
      key = group.step.key;
      load = group.step.out.load;
      is_joinable = is_joinable config cache group;
      is_inserted = inserts cache group;
      was_full = (len cache == config.capacity) && is_none group.victim;
    }

abbrev pub cause_fits : Opened → Cause → Bool
cause_fits kept Full = kept.was_full
cause_fits kept Memory = true
cause_fits kept Invalidated = false

-- the step's own key may go
abbrev pub own_goes : Opened → Bytes → Cause → Bool
own_goes kept key cause = pointwise ◌==◌ key kept.key && kept.is_inserted && cause_fits kept cause

-- an eviction may begin a part
abbrev pub starts_part : Cache → Bytes → Cause → Bool
starts_part cache key Full = true
starts_part cache key Memory = false
starts_part cache key Invalidated = is_some (entry_at cache key)

abbrev pub started_stage : Bytes → Cause → Stage
started_stage key Full = Picked key
started_stage key Memory = Picked key
started_stage key Invalidated = Outside

-- a victim goes with the step
abbrev pub started_cache : Cache → Bytes → Cause → Cache
started_cache cache key Full = cache
started_cache cache key Memory = cache
started_cache cache key Invalidated = remove cache key

abbrev pub picked_victim : Stage → Option Bytes
picked_victim Outside = None
picked_victim (Picked key) = Some key
picked_victim (Inside kept) = None

abbrev pub group_at : Stage → Caller → Op → Bytes → Out → Reply → Group
group_at stage caller op key out reply = read_group (picked_victim stage) caller op key out reply

-- no more entries than fit, at the end of a group
abbrev pub is_within : Config → Cache → Stage → Bool
is_within config cache Outside = true
is_within config cache (Picked key) = true
is_within config cache (Inside kept) = nat_le (len cache) config.capacity

abbrev pub FitsShared : Stage → Event → Type 0
FitsShared (Inside kept) (Step caller op key out shared_with reply) =
    IsTrue kept.is_joinable × (Step caller op key out shared_with reply ≡ shared_event kept.place kept.key kept.load caller)
FitsShared (Inside kept) (Evict key cause) = ⊥
FitsShared Outside event = ⊥
FitsShared (Picked key) event = ⊥

-- a victim or an invalidated key is named between two groups, or the step's own key
abbrev pub fits_evict : Config → Cache → Stage → Bytes → Cause → Bool
fits_evict config cache Outside key cause = starts_part cache key cause
fits_evict config cache (Picked victim) key cause = false
fits_evict config cache (Inside kept) key cause =
    own_goes kept key cause || (starts_part cache key cause && nat_le (len cache) config.capacity)

-- an event may come next
abbrev pub Fits : Config → Cache → Stage → Event → Type 0
Fits config cache stage (Step caller op key out None reply) =
    IsTrue (is_within config cache stage) × IsLawfulStep config cache (group_at stage caller op key out reply)
Fits config cache stage (Step caller op key out (Some place) reply) = FitsShared stage (Step caller op key out (Some place) reply)
Fits config cache stage (Evict key cause) = IsTrue (fits_evict config cache stage key cause)

abbrev pub evict_stage : Stage → Bytes → Cause → Stage
evict_stage Outside key cause = started_stage key cause
evict_stage (Picked victim) key cause = Picked key
evict_stage (Inside kept) key cause = if own_goes kept key cause then Outside else started_stage key cause

abbrev pub evict_cache : Cache → Stage → Bytes → Cause → Cache
evict_cache cache Outside key cause = started_cache cache key cause
evict_cache cache (Picked victim) key cause = cache
evict_cache cache (Inside kept) key cause = if own_goes kept key cause then remove cache key else started_cache cache key cause

-- the stage after an event at a place
abbrev pub then_stage : Config → Cache → ℕ → Stage → Event → Stage
then_stage config cache place stage (Step caller op key out None reply) =
    Inside (opened_group config cache place (group_at stage caller op key out reply))
then_stage config cache place stage (Step caller op key out (Some other) reply) = stage
then_stage config cache place stage (Evict key cause) = evict_stage stage key cause

-- the cache after an event; a victim goes with the step
abbrev pub then_cache : Cache → Stage → Event → Cache
then_cache cache stage (Step caller op key out None reply) = cache_after_step cache (group_at stage caller op key out reply)
then_cache cache stage (Step caller op key out (Some other) reply) = cache
then_cache cache stage (Evict key cause) = evict_cache cache stage key cause

-- the history may end
abbrev pub may_stop : Config → Cache → Stage → Bool
may_stop config cache Outside = true
may_stop config cache (Picked key) = false
may_stop config cache (Inside kept) = nat_le (len cache) config.capacity

-- each of the events fits after those before it
abbrev pub Accepts : Config → ℕ → Cache → Stage → List Event → Type 0
Accepts config place cache stage [] = IsTrue (may_stop config cache stage)
Accepts config place cache stage (e ∷ es) =
    Fits config cache stage e × Accepts config (place + 1) (then_cache cache stage e) (then_stage config cache place stage e) es

-- a step of the same session with a lower number
abbrev pub comes_before : Event → Event → Bool
comes_before (Step who op key out shared reply) (Step who' op' key' out' shared' reply') =
    (who.session == who'.session) && nat_lt who.call who'.call
comes_before (Step who op key out shared reply) (Evict key' cause) = false
comes_before (Evict key cause) event = false
