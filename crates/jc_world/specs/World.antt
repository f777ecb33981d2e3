-- The state of a world, a cache beside a store that is driven by events: each stripe, the store, the calls under way, and one order
-- of all events.
--     Parts                           by key, what the call that has reserved it asked and heard so far
--     JoinKey                         a call's number, and a key
--     join_cmp                        how two of them are compared: by the calls' numbers, and then by the keys
--     join_key                        the call and the key of a join
--     Joins                           the calls that have joined a load and haven't its answer, by call and key
--     WorldState                      the world as a caller may know it
--     home                            the number of the stripe that a key belongs to
--     stripe_for                      the stripe of a key
--     entry_in                        what a stripe caches for a key, if there is a stripe
--     cached_entry                    what is cached for a key
--     fresh_stripe, fresh_stripes     a stripe in which nothing has happened, and as many as are asked for, from a number on
--     start                           a world before anything has happened
--     is_busy                         a session has a call under way
--     is_idle                         no call is under way
--     open_call                       the call with this number, if it is under way
--     of_call                         a part, if it is this call's
--     part_of                         what a call has asked and heard for a key that it has reserved
--     has_progress                    a key is reserved, and its part passes a test
--     is_unanswered                   nobody who was asked has answered
--     waits_for_load                  the loader was asked, and hasn't answered
--     waits_for_process               the processor was asked, and hasn't run
--     waits_for_report                the writer was asked, and hasn't returned
--     is_write                        the writer is asked for a write, not for a delete
--     waits_for_write                 the writer was asked for a write, and hasn't returned
--     is_all_answered                 all that was asked is answered
--     is_untouched                    nothing was answered outside for the key, and nothing done
--     has_changed                     the writer has changed the store
--     is_misled                       the loader or the writer has lied about the key
--     writer_change                   what the writer is asked for, if it is
--     out_of_part                     the outside answers
--     join_of                         a call's join of a key, if it has one
--     has_join, is_joined             among these joins, and in a world, a call has joined a load of a key, and hasn't its answer
--     is_free_of                      a call has neither reserved a key nor joined a load of it
--     with_stored                     the world with this value in its store
--     is_foreign                      others have written a key in the store, or a loader or a writer has lied about it, since the
--                                     cache last wrote it, reserved it with no entry, left no entry of it or the store's at a
--                                     commit, or was opened again with the store's entries alone
--     has_any                         the cache has something of a key: an entry, or a reservation
--     is_untold                       a key is foreign, and the cache has something of it: it may be from before
--     with_foreign, without_foreign   these keys with one more, and without one if its write counts no longer
--     with_doubt                      these keys with one more if a loader or a writer has lied about it
use Rattle.std.specs.Prelude.{◌==◌, ℕ, zero, suc, ◌+◌, List, [], ◌∷◌, length, Bool, true, false, not, ◌&&◌, ◌||◌, Option, None}
use Rattle.std.specs.Prelude.{Some, find, is_none, is_some, slice_get, if◌then◌else◌}
use Rattle.std.specs.declared.cmp.Ordering.{Ordering}
use Rattle.std.specs.Ordering.{nat_cmp, on, then_cmp}
use Rattle.std.specs.List.{list_any}
use Rattle.std.specs.FinMap.{FinMap, empty}
use Rattle.std.specs.FinMap as map
use Rattle.jc_types.specs.declared.config.Config.{Config}
use Rattle.jc_types.specs.Stripes.{stripe_of}
use Rattle.jc_model.specs.declared.event.Change.{Change}
use Rattle.jc_model.specs.declared.event.Change.TheVariants.{Write, Delete}
use Rattle.jc_model.specs.declared.event.Event.{Event}
use Rattle.jc_model.specs.declared.event.Out.{Out}
use Rattle.jc_model.specs.Cache.{Bytes, Cache, key_cmp, entry_at, with_entry}
use Rattle.jc_model.specs.Table.{is_load_given, is_write_given, is_process_given}
use Rattle.jc_outside.specs.declared.done.Origin.TheVariants.{Played}
use Rattle.jc_stripe.specs.Tickets.{JoinClaim, asks_loader, asks_processor}
use Rattle.jc_stripe.specs.Reopening.{opened_stripe}
use Rattle.jc_stripe.specs.State.{State}
use Rattle.jc_world.specs.Calls.{CallState, has_number, is_of_session}
use Rattle.jc_world.specs.declared.event.Part.{Part}
use Rattle.jc_world.specs.declared.event.Premises.{Premises}

-- by key, what the call that has reserved it asked and heard so far
abbrev pub Parts : Type 0
Parts = FinMap key_cmp Part

-- a call's number, and a key
abbrev pub JoinKey : Type 0
JoinKey = ℕ × Bytes

-- by the calls' numbers, and then by the keys
abbrev pub join_cmp : JoinKey → JoinKey → Ordering
join_cmp = then_cmp (on (λ at. at.0) nat_cmp) (on (λ at. at.1) key_cmp)

abbrev pub join_key : JoinClaim → JoinKey
join_key join = (join.caller.call, join.key)

-- the calls that have joined a load and haven't its answer, by call and key
abbrev pub Joins : Type 0
Joins = FinMap join_cmp JoinClaim

pub record WorldState : Type 0 where
  pub config : Config
  pub stripes : List State
  pub order : List Event  -- all events since the world was opened last, over all stripes
  pub store : Cache
  pub foreign : Cache  -- the foreign keys, of which the cache may have what isn't the store's, each with no bytes
  pub last : Option ℕ  -- the highest number of a call so far
  pub calls : List CallState  -- the calls under way, in the order in which they began
  pub parts : Parts
  pub joins : Joins
  pub premises : Premises  -- what has held since then of loaders, writers and others, and of that opening
  pub is_fresh : Bool  -- no call has begun yet, nobody has written the store or invalidated a key, or opened the cache again

-- 1. Stripes.

-- the stripe that a key belongs to
abbrev pub home : WorldState → Bytes → ℕ
home w key = stripe_of key w.config.stripes

abbrev pub stripe_for : WorldState → Bytes → Option State
stripe_for w key = slice_get w.stripes (home w key)

abbrev pub entry_in : Option State → Bytes → Option Bytes
entry_in None key = None
entry_in (Some stripe) key = entry_at stripe.cache key

abbrev pub cached_entry : WorldState → Bytes → Option Bytes
cached_entry w key = entry_in (stripe_for w key) key

-- an empty stripe
abbrev pub fresh_stripe : Config → ℕ → State
fresh_stripe config number = opened_stripe config Played number []

-- as many, from a number on
abbrev pub fresh_stripes : Config → ℕ → ℕ → List State
fresh_stripes config number zero = []
fresh_stripes config number (suc count) =
    fresh_stripe config number ∷ fresh_stripes config (number + 1) count

abbrev pub start : Config → WorldState
start config =
    record {
      config = config;
      stripes = fresh_stripes config 0 config.stripes;
      order = [];
      store = empty;
      foreign = empty;
      last = None;
      calls = [];
      parts = empty;
      joins = empty;
      premises = record { writers = true; loaders = true; opening = true };
      is_fresh = true;
    }

-- 2. Calls.

-- the session has a call under way
abbrev pub is_busy : WorldState → ℕ → Bool
is_busy w session = list_any (is_of_session session) w.calls

-- no call is under way
abbrev pub is_idle : WorldState → Bool
is_idle w = length w.calls == 0

abbrev pub open_call : WorldState → ℕ → Option CallState
open_call w call = find (has_number call) w.calls

-- 3. The keys that calls have reserved.

abbrev pub of_call : ℕ → Option Part → Option Part
of_call call None = None
of_call call (Some part) = if part.reservation.caller.call == call then Some part else None

abbrev pub part_of : WorldState → ℕ → Bytes → Option Part
part_of w call key = of_call call (map.get w.parts key)

-- a key is reserved, and this is so of its part
abbrev pub has_progress : (Part → Bool) → Option Part → Bool
has_progress test None = false
has_progress test (Some part) = test part

-- nobody who was asked has answered
abbrev pub is_unanswered : Out → Bool
is_unanswered out =
    not (is_load_given out.load) && not (is_write_given out.write) && not (is_process_given out.process)

-- the loader was asked, and hasn't answered
abbrev pub waits_for_load : Part → Bool
waits_for_load part = asks_loader part.reservation.first && is_unanswered part.progress.out

-- the processor was asked, and hasn't run
abbrev pub waits_for_process : Part → Bool
waits_for_process part = asks_processor part.reservation.first && is_unanswered part.progress.out

-- the writer was asked, and hasn't returned
abbrev pub waits_for_report : Part → Bool
waits_for_report part = is_some part.progress.change && not (is_write_given part.progress.out.write)

-- it is asked for a write
abbrev pub is_write : Option Change → Bool
is_write None = false
is_write (Some (Write value)) = true
is_write (Some Delete) = false

abbrev pub waits_for_write : Part → Bool
waits_for_write part = waits_for_report part && is_write part.progress.change

-- all that was asked is answered
abbrev pub is_all_answered : Part → Bool
is_all_answered part = not (waits_for_load part) && not (waits_for_process part) && not (waits_for_report part)

-- nothing was answered outside, and nothing done
abbrev pub is_untouched : Part → Bool
is_untouched part = is_unanswered part.progress.out && not part.progress.is_changed

-- the writer has changed the store
abbrev pub has_changed : Part → Bool
has_changed part = part.progress.is_changed

-- what the loader or the writer has answered isn't so: what is cached at the commit may not be the store's
abbrev pub is_misled : Part → Bool
is_misled part = part.progress.is_misled

-- what the writer is asked for: the change that it was asked for first, or the processor's net effect
abbrev pub writer_change : Part → Option Change
writer_change part = part.progress.change

-- the outside answers
abbrev pub out_of_part : Part → Out
out_of_part part = part.progress.out

-- 4. The calls that have joined a load.

abbrev pub join_of : WorldState → ℕ → Bytes → Option JoinClaim
join_of w call key = map.get w.joins (call, key)

abbrev pub has_join : Joins → ℕ → Bytes → Bool
has_join joins call key = is_some (map.get joins (call, key))

abbrev pub is_joined : WorldState → ℕ → Bytes → Bool
is_joined w call key = has_join w.joins call key

-- a call has neither reserved a key nor joined a load of it
abbrev pub is_free_of : Parts → Joins → ℕ → Bytes → Bool
is_free_of parts joins call key =
    is_none (of_call call (map.get parts key)) && not (has_join joins call key)

-- 5. The store before anything has happened.
abbrev pub with_stored : WorldState → Bytes → Bytes → WorldState
with_stored w key value = record w { store = with_entry w.store key (Some value) }

-- 6. What others have written, or lied about.

-- others have written the key, or lied about it, and what the cache has of it may be from before
abbrev pub is_foreign : WorldState → Bytes → Bool
is_foreign w key = is_some (entry_at w.foreign key)

-- the cache has an entry of the key, or has reserved it
abbrev pub has_any : WorldState → Bytes → Bool
has_any w key = is_some (cached_entry w key) || is_some (map.get w.parts key)

-- and it has something of it
abbrev pub is_untold : WorldState → Bytes → Bool
is_untold w key = is_foreign w key && has_any w key

-- with no bytes
abbrev pub with_foreign : Cache → Bytes → Cache
with_foreign foreign key =
    if is_some (entry_at foreign key) then foreign else with_entry foreign key (Some [])

abbrev pub without_foreign : Cache → Bytes → Bool → Cache
without_foreign foreign key is_over = if is_over then with_entry foreign key None else foreign

abbrev pub with_doubt : Cache → Bytes → Bool → Cache
with_doubt foreign key is_misled = if is_misled then with_foreign foreign key else foreign
