-- What the audit of a world shows (`World::audit`): what is cached, which entries aren't the store's, and that the order of all
-- events is one legal history.
--     IsCache       a map of all that is cached, over all stripes
--     differs       an entry that isn't the store's, while no writer's change of its key waits for its commit
--     differing     the keys of such entries
--     untold_among, untold_keys
--                   the keys of these entries that are untold, and all of them, in byte order
--     cache_in      what a stripe caches, and nothing if there is no stripe
--     cache_at      what the stripe with a number caches
--     opening_in    the entries with which a stripe opened, and nothing if there is no stripe
--     opening_at    those of the stripe with a number
--     IsOrder       the order is one legal history over all stripes from their openings, and what is cached is what it leaves
--     HasShares      each stripe's history is its part of the order: a place in a stripe counts the events of that stripe alone
--     IsAudit       what an audit says
use Rattle.std.specs.Prelude.{◌≡◌, ◌↔◌, ℕ, List, Bool, not, ◌&&◌, IsTrue, Option, None, Some, length, map, filter, slice_get}
use Rattle.std.specs.FinMap.{get, entries, empty, from_entries}
use Rattle.jc_model.specs.Cache.{Bytes, Cache, entry_at}
use Rattle.jc_model.specs.Table.{holds}
use Rattle.jc_model.specs.Legal.{IsWholeHistory, of_stripe}
use Rattle.jc_stripe.specs.State.{State}
use Rattle.jc_world.specs.World.{WorldState, cached_entry, has_progress, has_changed, is_untold}

abbrev pub IsCache : WorldState → Cache → Type 0
IsCache w cache = (key : Bytes) → entry_at cache key ≡ cached_entry w key

abbrev pub differs : WorldState → Bytes × Bytes → Bool
differs w entry =
    not (holds (entry_at w.store entry.0) entry.1)
    && not (has_progress has_changed (get w.parts entry.0))

abbrev pub differing : WorldState → List (Bytes × Bytes) → List Bytes
differing w entries = map (λ e. e.0) (filter (differs w) entries)

abbrev pub untold_among : WorldState → List (Bytes × Bytes) → List Bytes
untold_among w foreign = map (λ e. e.0) (filter (λ e. is_untold w e.0) foreign)

-- each of them is a foreign key
abbrev pub untold_keys : WorldState → List Bytes
untold_keys w = untold_among w (entries w.foreign)

abbrev pub cache_in : Option State → Cache
cache_in None = empty
cache_in (Some stripe) = stripe.cache

abbrev pub cache_at : WorldState → ℕ → Cache
cache_at w number = cache_in (slice_get w.stripes number)

abbrev pub opening_in : Option State → Cache
opening_in None = empty
opening_in (Some stripe) = from_entries stripe.opening

abbrev pub opening_at : WorldState → ℕ → Cache
opening_at w number = opening_in (slice_get w.stripes number)

abbrev pub IsOrder : WorldState → Type 0
IsOrder w = IsWholeHistory w.config (opening_at w) w.order (cache_at w)

abbrev pub HasShares : WorldState → Type 0
HasShares w =
    (number : ℕ) (s : State) → slice_get w.stripes number ≡ Some s
    → s.history ≡ of_stripe w.config.stripes number w.order

-- the entries are in the byte order of their keys
pub record IsAudit (w : WorldState) (cached_entries stored_entries : List (Bytes × Bytes))
    (keys : List Bytes) (events : ℕ) (legal : Bool) : Type 0 where
  pub cache : Cache
  pub cache_is : IsCache w cache
  pub entries_are : cached_entries ≡ entries cache
  pub stored_are : stored_entries ≡ entries w.store
  pub keys_are : keys ≡ differing w cached_entries
  pub events_are : events ≡ length w.order
  pub legal_is : IsTrue legal ↔ IsOrder w
