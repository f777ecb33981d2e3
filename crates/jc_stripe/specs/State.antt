-- The state of a stripe, as contracts see it, and what is looked up and changed in it.
--     Generation          a generation that has ended
--     State               the stripe as a caller sees it
--     is_of               whether a key is of this stripe
--     promised            the reserved room in the history: `STEP_PLACES` for each reservation, `HIT_PLACES` for each joiner that
--                         waits
--     is_key              whether a reservation is of this key
--     is_reserved         whether a key is reserved
--     is_marked           whether a key is reserved and was invalidated since
--     reservation_of      the reservation of a key, if it has one
--     new_reservation     the reservation that a call makes of a key, by the next number
--     with_reservation    the state with one more reservation, and the next number after it
--     without_key         the reservations of the other keys
--     without_reservation the state without a key's reservation, and without its mark
--     with_mark           the state in which one more reserved key is marked; without room for a mark all reserved keys are
--     without_mark        the marks of the other keys
--     is_barred           no call begins at a key: it is marked, or the stripe is shut
--     IsOut               a reservation is out here: it is the one that the stripe has of its key
--     IsJoined            a join is out here: its call is among the joiners of its key, and joined this load
--     IsIdle              no reservation and no join is out
use Rattle.std.specs.Prelude.{◌≡◌, ◌==◌, ◌||◌, ℕ, ◌+◌, ◌*◌, find, filter, map, count_by, List, [], ◌∷◌, ◌++◌, length, Bool, not}
use Rattle.std.specs.Prelude.{nat_lt, Option, Some, IsSomeAnd, if◌then◌else◌}
use Rattle.std.specs.List.{list_any}
use Rattle.std.specs.Cmp.Lexicographic.{pointwise}
use Rattle.jc_types.specs.declared.caller.Caller.{Caller}
use Rattle.jc_types.specs.declared.config.Config.{Config}
use Rattle.jc_types.specs.declared.limits.TheConstants.{STEP_PLACES, HIT_PLACES, RESERVATIONS_MAX}
use Rattle.jc_types.specs.Stripes.{stripe_of}
use Rattle.jc_model.specs.declared.event.Op.{Op}
use Rattle.jc_model.specs.declared.event.Event.{Event}
use Rattle.jc_model.specs.Cache.{Bytes, Cache}
use Rattle.jc_inflight.specs.declared.joiner.Joiner.{Joiner}
use Rattle.jc_inflight.specs.Joining.{waits, belongs_to}
use Rattle.jc_outside.specs.declared.done.Origin.{Origin}
use Rattle.jc_stripe.specs.declared.ticket.First.{First}
use Rattle.jc_stripe.specs.declared.ticket.Reservation.{Reservation}
use Rattle.jc_stripe.specs.Tickets.{JoinClaim}

-- a generation that has ended: the entries before its history, the most recently used first, and its history
pub record Generation : Type 0 where
  pub opening : List (Bytes × Bytes)
  pub history : List Event

pub record State : Type 0 where
  pub config : Config
  pub stripe : ℕ  -- the stripe's number among those of the cache
  pub origin : Origin  -- whether the outside answers are live or played
  pub lives : Bool  -- whether a full history may end, and the next one begin
  pub ended : List Generation  -- the generations that have ended, the oldest first
  pub opening : List (Bytes × Bytes)  -- the entries before its history, the most recently used first
  pub cache : Cache
  pub reservations : List Reservation  -- in the order of reserving
  pub joiners : List Joiner  -- in the order of joining: those that wait for a load, and those that have not picked up their answer
  pub history : List Event
  pub next : ℕ  -- the number of the next reservation
  pub marked : List Bytes  -- the reserved keys that were invalidated since
  pub shut : Bool  -- no call begins, since an invalidated entry couldn't be evicted; then all unreserved entries are evicted first

abbrev pub is_of : State → Bytes → Bool
is_of state key = stripe_of key state.config.stripes == state.stripe

-- 1. Reserved room in the history.

-- a reservation keeps room for its commit, and a joiner that waits for its shared step
abbrev pub promised : State → ℕ
promised state = STEP_PLACES * length state.reservations + HIT_PLACES * count_by waits state.joiners

-- 2. Reservations.

abbrev pub is_key : Bytes → Reservation → Bool
is_key key r = pointwise ◌==◌ key r.key

abbrev pub is_reserved : State → Bytes → Bool
is_reserved state key = list_any (is_key key) state.reservations

abbrev pub reservation_of : State → Bytes → Option Reservation
reservation_of state key = find (is_key key) state.reservations

abbrev pub new_reservation : State → Caller → Bytes → Op → First → Reservation
new_reservation state caller key op first = record { caller = caller; key = key; op = op; number = state.next; first = first }

abbrev pub with_reservation : State → Reservation → State
with_reservation state r = record state { reservations = state.reservations ++ r ∷ []; next = state.next + 1 }

abbrev pub without_key : Bytes → List Reservation → List Reservation
without_key key rs = filter (λ r. not (is_key key r)) rs

abbrev pub without_mark : Bytes → List Bytes → List Bytes
without_mark key marked = filter (λ k. not (pointwise ◌==◌ key k)) marked

-- a key's mark goes with its reservation
abbrev pub without_reservation : State → Bytes → State
without_reservation state key =
    record state { reservations = without_key key state.reservations; marked = without_mark key state.marked }

-- a marked key's entry, and what its reservation leaves, answer no call that begins from now on
abbrev pub is_marked : State → Bytes → Bool
is_marked state key = list_any (pointwise ◌==◌ key) state.marked

abbrev pub with_mark : State → Bytes → State
with_mark state key =
    if is_marked state key then state
    else (if nat_lt (length state.marked) RESERVATIONS_MAX then record state { marked = state.marked ++ key ∷ [] }
    else record state { marked = map (λ r. r.key) state.reservations })

abbrev pub is_barred : State → Bytes → Bool
is_barred state key = state.shut || is_marked state key

-- the stripe's reservation of the key is this one: it has the same caller, operation and number, and asks the same first
abbrev pub IsOut : State → Reservation → Type 0
IsOut state r = reservation_of state r.key ≡ Some r

-- 3. Joins.

abbrev pub IsJoined : State → JoinClaim → Type 0
IsJoined state join = IsSomeAnd (find (belongs_to join.caller join.key) state.joiners) (λ j. j.load ≡ join.load)

-- 4. Nothing is out.

pub record IsIdle (state : State) : Type 0 where
  pub reservations : state.reservations ≡ []
  pub joiners : state.joiners ≡ []
