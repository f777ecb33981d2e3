-- Closed caches, and refusals to close one.
--     IsClosedAt          the stripe with this number of a closed cache of this shape, whose owner had noted this state of it: it
--                         lives on exactly if it did then, and its first generation opened with the same entries; each generation
--                         left what the next one opened with; the last one's history is legal from its opening and leads to the
--                         stripe's entries; nothing is out, its outside answers were live, and it has no step of a session that
--                         was never given out
--     HasLookedOnce       an own seat has taken its stripe once, in this state, and given it back as it was
--     AreIdle             each of them has looked once, and nothing was out there
--     HasFront            a session has seen no more of each stripe than is in its whole history
--     AreClosed           the stripes of a closed cache, each with the opening that its owner has noted
--     IsClosed            a cache is closed: its stripes; and each session that was handed in has seen no more of them
--     HasClosed           as `IsClosed`, and the sessions' loaders and writers come back, in the order of the sessions
--     IsTakenAs           an own seat has taken its stripe in this state, and not given it back
--     lent_at, all_lent   the lendings of a session's seat at a stripe, and of all these sessions there
--     HasTakenOver        an own seat looked at its stripe once before it took it, and found nothing out; after that it has all
--                         lendings of the sessions
--     HasEnded            a cache was ended without its sessions: its stripes alone; each own seat looked at its stripe once
--                         before it took it, and gave out no session
--     HasOnlyLooked       an own seat has only taken its stripe and given it back as it was, any number of times
--     HasLastFound        among its lendings since then the last one found the stripe in this state, and left it so
--     IsInUse             one of these seats found its stripe last with a reservation or a join out
--     HasFoundHeld        one of these seats found its stripe held by somebody else
--     IsHandedBack        an owner that could not close the cache owns it as before; its seats may have noted and seen more of
--                         the stripes
--     IsEndRefusal        why the stripes are not taken from a cache: an own seat found something out at its stripe last; or
--                         nothing is out, and an allocation failed; or a seat found its stripe held
--     IsCloseRefusal      why a cache is not closed: a session is missing, and then nobody looked at a stripe; or all are there,
--                         and its stripes are not taken
--     HasNotClosed        a cache was not closed, and why; the owner and the sessions come back
--     HasNotEnded         a cache was not ended, and why; the owner comes back
use Rattle.std.specs.Prelude.{◌≡◌, ◌≢◌, ◌⊎◌, ◌≤◌, ◌<◌, ◌++◌, ◌∷◌, ℕ, zero, suc, Bool, true, List, [], map, length, Some, slice_get}
use Rattle.std.specs.List.{AllZip, flat_map}
use Rattle.std.specs.FinMap.{from_entries}
use mathlib.Core.List.{IsPrefix}
use Rattle.atomic_table.specs.Seated.{TableId}
use Rattle.jc_types.specs.declared.config.Config.{Config}
use Rattle.jc_types.specs.declared.refusal.Refusal.{Refusal}
use Rattle.jc_types.specs.declared.refusal.Refusal.TheVariants.{Busy, OutOfMemory, StillReserved}
use Rattle.jc_outside.specs.declared.done.Origin.TheVariants.{Live}
use Rattle.jc_outside.specs.declared.hands.Outside.{Outside}
use Rattle.jc_model.specs.Legal.{Legal, IsHistory}
use Rattle.jc_stripe.specs.State.{State, IsIdle}
use Rattle.jc_stripe.specs.Generations.{IsChain, whole_history, IsOfSameStripe}
use Rattle.jc_stripe.specs.Reached.{IsReached}
use Rattle.jc_stripe.specs.Renewal.{all_own_steps}
use Rattle.jc_lock.specs.declared.view.View.{View}
use Rattle.jc_engine.specs.Rows.{AllLend}
use Rattle.jc_session.specs.declared.session.Session.{Session}
use Rattle.jc_cache.specs.Caches.{CacheOwnerState, Log, logs_of}

-- 1. A cache that is closed.

pub record IsClosedAt (config : Config) (stripe given : ℕ) (noted state : State) : Type 0 where
  pub reached : IsReached state
  pub idle : IsIdle state
  pub config_is : state.config ≡ config
  pub stripe_is : state.stripe ≡ stripe
  pub same : IsOfSameStripe noted state
  pub origin_is : state.origin ≡ Live
  pub chain : IsChain config state.ended state.opening
  pub legal : Legal config state.opening state.history
  pub leaves : IsHistory config (from_entries state.opening) state.history state.cache
  pub none_later : (session : ℕ) → given ≤ session → all_own_steps session state ≡ []

abbrev pub HasFront : List State → List (TableId × View) → Type 0
HasFront stripes seats =
    (i : ℕ) (state : State) (seat : TableId × View) → slice_get stripes i ≡ Some state → slice_get seats i ≡ Some seat
    → IsPrefix seat.1.front (whole_history state)

-- `before` and `after` are the log of an own seat
pub record HasOnlyLooked (before after : Log) : Type 0 where
  pub row : List (State × State)
  pub lendings : after.lendings ≡ before.lendings ++ row
  pub looked : AllLend (λ found left. left ≡ found) row
  pub misses : before.misses ≤ after.misses

pub record HasLookedOnce (before after : Log) (found : State) : Type 0 where
  pub lendings : after.lendings ≡ before.lendings ++ (found, found) ∷ []
  pub misses : after.misses ≡ before.misses

-- `old` and `new` are the logs of the own seats
abbrev pub AreIdle : (old new : List Log) → Type 0
AreIdle old new =
    (i : ℕ) (before after : Log) → slice_get old i ≡ Some before → slice_get new i ≡ Some after
    → (found : State) × HasLookedOnce before after found × IsIdle found

pub record IsTakenAs (seat : TableId × View) (state : State) : Type 0 where
  pub holds : seat.1.holds ≡ true
  pub noted : seat.1.noted ≡ state

pub record AreClosed (owner : CacheOwnerState) (stripes : List State) : Type 0 where
  pub count : length stripes ≡ owner.cache.config.stripes
  pub each : (i : ℕ) (state : State) → slice_get stripes i ≡ Some state
      → (noted : State) × (slice_get owner.noted i ≡ Some noted) × IsClosedAt owner.cache.config i owner.given noted state

pub record IsClosed {I J : Type 0} {D : I → Type 0} {E : J → Type 0} (owner : CacheOwnerState) (sessions : List (Session I J D E))
    (stripes : List State) : Type 0 where
  pub stripes_are : AreClosed owner stripes
  pub all : length sessions ≡ owner.given
  pub fronts : (n : ℕ) (session : Session I J D E) → slice_get sessions n ≡ Some session → HasFront stripes session.seats.items

abbrev pub lent_at : List (TableId × View) → ℕ → List (State × State)
lent_at [] i = []
lent_at (seat ∷ seats) zero = seat.1.lendings
lent_at (seat ∷ seats) (suc i) = lent_at seats i

abbrev pub all_lent : {I J : Type 0} {D : I → Type 0} {E : J → Type 0} → List (Session I J D E) → ℕ → List (State × State)
all_lent {I} {J} {D} {E} sessions i = flat_map (λ (session : Session I J D E). lent_at session.seats.items i) sessions

-- `before` is the log of an own seat, `brought` what sessions have lent
pub record HasTakenOver (before : Log) (brought : List (State × State)) (seat : TableId × View) : Type 0 where
  pub found : State
  pub lendings : seat.1.lendings ≡ before.lendings ++ (found, found) ∷ brought
  pub idle : IsIdle found

pub record HasClosed {I J : Type 0} {D : I → Type 0} {E : J → Type 0} (owner : CacheOwnerState) (sessions : List (Session I J D E))
    (stripes : List State) (brought : List (Outside I J D E)) (seats : List (TableId × View)) (says : Bool) : Type 0 where
  pub closed : IsClosed owner sessions stripes
  pub taken : AllZip IsTakenAs seats stripes
  pub gave_none : (i : ℕ) (seat : TableId × View) → slice_get seats i ≡ Some seat → seat.1.next_session ≡ Some owner.given
  pub lent : (i : ℕ) (before : Log) (seat : TableId × View) → slice_get owner.logs i ≡ Some before → slice_get seats i ≡ Some seat
      → HasTakenOver before (all_lent sessions i) seat
  pub outside : brought ≡ map (λ (session : Session I J D E). session.agent.hands.outside) sessions
  pub legal : says ≡ true

pub record HasEnded {I J : Type 0} {D : I → Type 0} {E : J → Type 0} (owner : CacheOwnerState) (stripes : List State)
    (brought : List (Outside I J D E)) (seats : List (TableId × View)) (says : Bool) : Type 0 where
  pub closed : AreClosed owner stripes
  pub looked : AreIdle owner.logs (logs_of seats)
  pub taken : AllZip IsTakenAs seats stripes
  pub gave_none : (i : ℕ) (seat : TableId × View) → slice_get seats i ≡ Some seat → seat.1.next_session ≡ Some owner.given
  pub outside : brought ≡ []
  pub legal : says ≡ true

-- 2. A cache that is not closed.

pub record HasLastFound (before after : List (State × State)) (found : State) : Type 0 where
  pub earlier : List (State × State)
  pub lendings : after ≡ before ++ (earlier ++ (found, found) ∷ [])

abbrev pub IsInUse : (old new : List Log) → Type 0
IsInUse old new = (i : ℕ) × (before : Log) × (after : Log) × (slice_get old i ≡ Some before) × (slice_get new i ≡ Some after)
    × ((found : State) × HasLastFound before.lendings after.lendings found × (IsIdle found → ⊥))

abbrev pub HasFoundHeld : (old new : List Log) → Type 0
HasFoundHeld old new =
    (i : ℕ) × (before : Log) × (after : Log) × (slice_get old i ≡ Some before) × (slice_get new i ≡ Some after)
    × (before.misses < after.misses)

pub record IsHandedBack (owner left : CacheOwnerState) : Type 0 where
  pub cache : left.cache ≡ owner.cache
  pub given : left.given ≡ owner.given
  pub noted : AllZip IsOfSameStripe owner.noted left.noted
  pub fronts : AllZip IsPrefix owner.fronts left.fronts
  pub logs : AllZip HasOnlyLooked owner.logs left.logs

abbrev pub IsEndRefusal : Refusal → CacheOwnerState → CacheOwnerState → Type 0
IsEndRefusal refusal owner left =
    ((refusal ≡ StillReserved) × IsInUse owner.logs left.logs)
    ⊎ (((refusal ≡ OutOfMemory) × AreIdle owner.logs left.logs) ⊎ ((refusal ≡ Busy) × HasFoundHeld owner.logs left.logs))

abbrev pub IsCloseRefusal : CacheOwnerState → ℕ → Refusal → CacheOwnerState → Type 0
IsCloseRefusal owner handed_in refusal left =
    ((handed_in ≢ owner.given) × (refusal ≡ StillReserved) × (left ≡ owner))
    ⊎ ((handed_in ≡ owner.given) × IsEndRefusal refusal owner left)

pub record HasNotClosed {I J : Type 0} {D : I → Type 0} {E : J → Type 0} (owner : CacheOwnerState)
    (sessions : List (Session I J D E)) (refusal : Refusal) (left : CacheOwnerState)
    (sessions' : List (Session I J D E)) : Type 0 where
  pub why : IsCloseRefusal owner (length sessions) refusal left
  pub back : IsHandedBack owner left × (sessions' ≡ sessions)

pub record HasNotEnded {I J : Type 0} {D : I → Type 0} {E : J → Type 0} (owner : CacheOwnerState) (refusal : Refusal)
    (left : CacheOwnerState) (sessions : List (Session I J D E)) : Type 0 where
  pub why : IsEndRefusal refusal owner left
  pub back : IsHandedBack owner left × (sessions ≡ [])
