-- Legal histories.
--     may_come           a step of this session, number and key may come after an event
--     may_follow         an event may come after another one
--     in_order           callers' order: the numbers of a session's steps never fall, and no two steps have session, number and key
--                        in common
--     event_key          the key of an event
--     is_of_stripe       whether an event's key is of a stripe
--     of_stripe          the events whose key is of a stripe
--     IsOpening          the cache that a stripe's history may begin with: at most `capacity` entries, and only keys of the stripe
--     IsHistory          the events are lawful parts from a cache, in the callers' order, and leave another cache
--     Legal              a legal history of one stripe: of a lawful configuration, from an opening of the stripe, as `legal`
--                        checks it
--     IsWholeHistory     a legal history over all stripes: of a lawful configuration, from an opening of each stripe, and the part
--                        of each stripe is a history, places counted in that part
use Rattle.std.specs.Prelude.{◌≡◌, ◌==◌, ◌≤◌, ◌<◌, ℕ, List, [], ◌∷◌, filter, Bool, true, not, ◌&&◌, ◌||◌, IsTrue, nat_lt, Ok}
use Rattle.std.specs.List.{list_all}
use Rattle.std.specs.Cmp.Lexicographic.{pointwise}
use Rattle.std.specs.FinMap.{contains_key, from_entries, len}
use Rattle.jc_types.specs.declared.caller.Caller.{Caller}
use Rattle.jc_types.specs.declared.config.Config.{Config}
use Rattle.jc_types.specs.Limits.{check}
use Rattle.jc_types.specs.Stripes.{stripe_of}
use Rattle.jc_model.specs.declared.event.Event.{Event}
use Rattle.jc_model.specs.declared.event.Event.TheVariants.{Step, Evict}
use Rattle.jc_model.specs.Cache.{Bytes, Cache}
use Rattle.jc_model.specs.Listed.{has_distinct_keys}
use Rattle.jc_model.specs.Group.{Part, history_of, cache_after_parts}
use Rattle.jc_model.specs.Lawful.{AreLawful}

-- 1. The callers' order.

-- the call's number is above the event's, or they are one call at two keys; another session's event doesn't matter
abbrev pub may_come : Event → Caller → Bytes → Bool
may_come (Step who op k out shared reply) caller key =
    not (who.session == caller.session) || nat_lt who.call caller.call || ((who.call == caller.call) && not (pointwise ◌==◌ k key))
may_come (Evict k cause) caller key = true

abbrev pub may_follow : Event → Event → Bool
may_follow event (Step caller op key out shared reply) = may_come event caller key
may_follow event (Evict key cause) = true

abbrev pub in_order : List Event → Bool
in_order [] = true
in_order (event ∷ events) = list_all (may_follow event) events && in_order events

-- 2. Keys of a stripe.

abbrev pub event_key : Event → Bytes
event_key (Step who op key out shared reply) = key
event_key (Evict key cause) = key

abbrev pub is_of_stripe : ℕ → ℕ → Event → Bool
is_of_stripe stripes stripe event = stripe_of (event_key event) stripes == stripe

abbrev pub of_stripe : ℕ → ℕ → List Event → List Event
of_stripe stripes stripe events = filter (is_of_stripe stripes stripe) events

-- the cache that a stripe's history may begin with
pub record IsOpening (config : Config) (stripe : ℕ) (cache : Cache) : Type 0 where
  pub few : len cache ≤ config.capacity
  pub own : (key : Bytes) → IsTrue (contains_key cache key) → stripe_of key config.stripes ≡ stripe

-- 3. Histories.

pub record IsHistory (config : Config) (cache : Cache) (events : List Event) (next : Cache) : Type 0 where
  pub parts : List Part
  pub spelled : events ≡ history_of 0 parts
  pub lawful : AreLawful config cache parts
  pub left : next ≡ cache_after_parts cache parts
  pub order : IsTrue (in_order events)

pub record Legal (config : Config) (opening : List (Bytes × Bytes)) (events : List Event) : Type 0 where
  pub config_fits : check config ≡ Ok tt
  pub once : IsTrue (has_distinct_keys opening)
  pub stripe : ℕ
  pub opens : IsOpening config stripe (from_entries opening)
  pub own : IsTrue (list_all (is_of_stripe config.stripes stripe) events)
  pub next : Cache
  pub history : IsHistory config (from_entries opening) events next

-- `opening` and `next` give each stripe's cache
pub record IsWholeHistory (config : Config) (opening : ℕ → Cache) (events : List Event) (next : ℕ → Cache) : Type 0 where
  pub config_fits : check config ≡ Ok tt
  pub openings : (stripe : ℕ) → stripe < config.stripes → IsOpening config stripe (opening stripe)
  pub parts : (stripe : ℕ) → stripe < config.stripes
      → IsHistory config (opening stripe) (of_stripe config.stripes stripe events) (next stripe)
  pub order : IsTrue (in_order events)
