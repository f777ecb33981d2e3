-- The invariant of every stripe: what is true of each state that its phases reach.
--     AllAsk         each reservation still asks first whom it asked at first
--     may_end        the step of a reservation may come after these events
--     are_beside     no two reservations of a session have different call numbers, or the same key
--     AreNumbered    no two reservations have the same key or number, and the numbers are below the next one
--     FindsLoad      a joiner finds the reservation of its load, which asked the loader; its key is missing, and read-through is
--                    on
--     HasStep        a joiner's own shared step is at a place, and names the step that loaded
--     JoinFits       a joiner that waits finds its load, and one for whom an answer is parked has its step
--     AllJoin        all joiners fit so
--     may_share      the shared step of a joiner that waits may come after these events
--     are_apart      no two joiners of a session have different call numbers, or the same key
--     all_apart      no reservation and joiner of a session have different call numbers, or the same key
--     is_own         an event is of one of the stripe's keys
--     IsUsed         the entries by use are the cached ones, each key once, and they are of the stripe's keys
--     AreReserved    the marked keys are reserved
--     IsReached      its opening is one of its stripe, its history is legal from it and leaves its entries, its tables are within
--                    their limits, each reservation still asks what it asked, each joiner that waits still finds its load, and
--                    the steps of both may still come; only reserved keys are marked
--     IsOpened       nothing has happened in it yet: it caches what it opens with, and nobody has called
use Rattle.std.specs.Prelude.{◌≡◌, ◌==◌, ◌+◌, ◌≤◌, ◌<◌, ℕ, List, [], ◌∷◌, length, Ok, IsTrue, Bool, true, false, not, ◌&&◌, ◌||◌}
use Rattle.std.specs.Prelude.{None, Some, All, AllPairs, slice_get}
use Rattle.std.specs.List.{list_all, list_any}
use Rattle.std.specs.FinMap.{len, from_entries}
use Rattle.jc_types.specs.declared.config.Config.{Config}
use Rattle.jc_types.specs.Limits.{check}
use Rattle.jc_types.specs.declared.limits.TheConstants.{RESERVATIONS_MAX, JOINERS_MAX}
use Rattle.jc_model.specs.declared.event.Op.TheVariants.{Get}
use Rattle.jc_model.specs.declared.event.Out.{Out}
use Rattle.jc_model.specs.declared.event.Reply.{Reply}
use Rattle.jc_model.specs.declared.event.Event.{Event}
use Rattle.jc_model.specs.declared.event.Event.TheVariants.{Step}
use Rattle.jc_model.specs.Cache.{Bytes, Cache, entry_at}
use Rattle.jc_model.specs.Listed.{has_distinct_keys}
use Rattle.jc_model.specs.Legal.{IsOpening, IsHistory, is_of_stripe, may_come}
use Rattle.jc_inflight.specs.declared.joiner.Joiner.{Joiner}
use Rattle.jc_inflight.specs.declared.joiner.JoinState.{JoinState}
use Rattle.jc_inflight.specs.declared.joiner.JoinState.TheVariants.{Waiting, Answered, Again}
use Rattle.jc_stripe.specs.declared.ticket.Reservation.{Reservation}
use Rattle.jc_inflight.specs.Joining.{waits}
use Rattle.jc_stripe.specs.State.{State, is_of, is_key, promised, reservation_of}
use Rattle.jc_stripe.specs.Refusals.{first_asked, load_at}
use Rattle.jc_stripe.specs.OrderOfUse.{by_use}
use Rattle.jc_stripe.specs.Generations.{IsChain}
use Rattle.jc_stripe.specs.Phases.{is_other_call, is_other_join}

-- 1. Reservations.

-- a reservation still asks what it asked at first
abbrev pub AllAsk : Config → Cache → List Reservation → Type 0
AllAsk config cache [] = Unit {0}
AllAsk config cache (r ∷ rs) = (first_asked config r.op (entry_at cache r.key) ≡ r.first) × AllAsk config cache rs

-- the step of a reservation may come after these events
abbrev pub may_end : List Event → Reservation → Bool
may_end history r = list_all (λ e. may_come e r.caller r.key) history

-- no two reservations of a session have different call numbers, or the same key
abbrev pub are_beside : List Reservation → Bool
are_beside [] = true
are_beside (r ∷ rs) = list_all (is_other_call r.caller r.key) rs && are_beside rs

-- no two reservations have the same key or number, and the numbers are below the next one
pub record AreNumbered (next : ℕ) (rs : List Reservation) : Type 0 where
  pub once : AllPairs (λ r later. is_key r.key later ≡ false) rs
  pub numbers : AllPairs (λ r later. (r.number == later.number) ≡ false) rs
  pub below : All (λ r. r.number < next) rs

-- 2. Joiners.

-- a joiner that waits finds the reservation of its load, which asked the loader; the key is missing, and read-through is on
pub record FindsLoad (state : State) (j : Joiner) : Type 0 where
  pub load : load_at (reservation_of state j.key) ≡ Some j.load
  pub missing : entry_at state.cache j.key ≡ None
  pub read_through : state.config.read_through ≡ true

-- a joiner for whom an answer is parked has its step in the history
abbrev pub HasStep : List Event → Joiner → ℕ → ℕ → Type 0
HasStep history j place shared =
    (out : Out) × (reply : Reply) × (slice_get history place ≡ Some (Step j.caller Get j.key out (Some shared) reply))

abbrev pub JoinFits : State → Joiner → JoinState → Type 0
JoinFits state j Waiting = FindsLoad state j
JoinFits state j (Answered place shared) = HasStep state.history j place shared
JoinFits state j Again = Unit {0}

abbrev pub AllJoin : State → List Joiner → Type 0
AllJoin state [] = Unit {0}
AllJoin state (j ∷ js) = JoinFits state j j.state × AllJoin state js

-- the shared step of a joiner that waits may come after these events
abbrev pub may_share : List Event → Joiner → Bool
may_share history j = not (waits j) || list_all (λ e. may_come e j.caller j.key) history

-- no two joiners of a session have different call numbers, or the same key
abbrev pub are_apart : List Joiner → Bool
are_apart [] = true
are_apart (j ∷ js) = list_all (is_other_join j.caller j.key) js && are_apart js

-- no reservation and joiner of a session have different call numbers, or the same key
abbrev pub all_apart : List Reservation → List Joiner → Bool
all_apart rs js = list_all (λ r. list_all (is_other_join r.caller r.key) js) rs

-- 3. Marks.

abbrev pub AreReserved : List Reservation → List Bytes → Type 0
AreReserved rs marked = IsTrue (list_all (λ key. list_any (is_key key) rs) marked)

-- 4. The stripe.

-- the stripe's events are of its keys
abbrev pub is_own : State → Event → Bool
is_own state event = is_of_stripe state.config.stripes state.stripe event

-- the entries by use are the cached ones, each key once, and they are of the stripe's keys
pub record IsUsed (state : State) : Type 0 where
  pub once : IsTrue (has_distinct_keys (by_use state.opening state.history))
  pub own : IsTrue (list_all (λ entry. is_of state entry.0) (by_use state.opening state.history))
  pub cache : state.cache ≡ from_entries (by_use state.opening state.history)

pub record IsReached (state : State) : Type 0 where
  pub config_fits : check state.config ≡ Ok tt
  pub chain : IsChain state.config state.ended state.opening
  pub one_life : state.lives ≡ false → state.ended ≡ []
  pub opened_once : IsTrue (has_distinct_keys state.opening)
  pub opens : IsOpening state.config state.stripe (from_entries state.opening)
  pub legal : IsHistory state.config (from_entries state.opening) state.history state.cache
  pub used : IsUsed state
  pub own : IsTrue (list_all (is_own state) state.history)
  pub keys : IsTrue (list_all (λ r. is_of state r.key) state.reservations)
  pub few_entries : len state.cache ≤ state.config.capacity
  pub few_reservations : length state.reservations ≤ RESERVATIONS_MAX
  pub few_joiners : length state.joiners ≤ JOINERS_MAX
  pub places : length state.history + promised state ≤ state.config.history
  pub numbered : AreNumbered state.next state.reservations
  pub asks : AllAsk state.config state.cache state.reservations
  pub ends : IsTrue (list_all (may_end state.history) state.reservations)
  pub beside : IsTrue (are_beside state.reservations)
  pub joins : AllJoin state state.joiners
  pub shares : IsTrue (list_all (may_share state.history) state.joiners)
  pub apart : IsTrue (are_apart state.joiners)
  pub between : IsTrue (all_apart state.reservations state.joiners)
  pub marks : AreReserved state.reservations state.marked

-- the first state, whatever it opens with
pub record IsOpened (state : State) : Type 0 where
  pub config_fits : check state.config ≡ Ok tt
  pub ended : state.ended ≡ []
  pub once : IsTrue (has_distinct_keys state.opening)
  pub own : IsTrue (list_all (λ entry. is_of state entry.0) state.opening)
  pub few : length state.opening ≤ state.config.capacity
  pub cache : state.cache ≡ from_entries state.opening
  pub reservations : state.reservations ≡ []
  pub joiners : state.joiners ≡ []
  pub history : state.history ≡ []
  pub marked : state.marked ≡ []
