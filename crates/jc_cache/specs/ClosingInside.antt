-- The cache's own seats during a close, after the first ones have taken their stripes. No contract of a public function cites this.
--     KeepsSeat                   a seat is still the same, at the same lock and stripe; it may have seen more of the history,
--                                 and have more lendings of this kind
--     LeavesUnchanged, Whatever   a lending that left the stripe as it was, and any lending
--     KeepSeats                   each of these seats is still the same
--     IsFreeSeat                  a seat of no session, which has not taken its stripe
--     HasTaken                    a seat of no session, which has taken its stripe in this state: the state is reached, nothing
--                                 is out there, and it has no step of a session that the seat has yet to give out
--     HaveTaken                   the first of these seats have taken their stripes in these states, and the others have not
--     OwnsSeats                   own seats are at these locks; the first ones have taken their stripes in these states, and the
--                                 others have not
--     KeepsOwn                    the own seats are still the same, and have taken these stripes
--     IsTakeRefusal               why a stripe is not taken: the seat found something out there last, or found the stripe held
--     IsRowRefusal                why the stripes of these seats are not taken: one of them is not
--     AreAtLocks                  the seats of a session are at these locks, and have not taken their stripes
use Rattle.std.specs.Prelude.{◌≡◌, ◌⊎◌, ◌≤◌, ◌<◌, ◌++◌, ℕ, List, [], ◌∷◌, map, true, false, None, Some, slice_get}
use Rattle.std.specs.List.{AllZip}
use mathlib.Core.List.{IsPrefix}
use Rattle.atomic_table.specs.Seated.{TableId}
use Rattle.jc_types.specs.declared.refusal.Refusal.{Refusal}
use Rattle.jc_types.specs.declared.refusal.Refusal.TheVariants.{Busy, StillReserved}
use Rattle.jc_stripe.specs.State.{State, IsIdle}
use Rattle.jc_stripe.specs.Generations.{whole_history, IsOfSameStripe}
use Rattle.jc_stripe.specs.Reached.{IsReached}
use Rattle.jc_stripe.specs.Renewal.{all_own_steps}
use Rattle.jc_lock.specs.declared.view.View.{View}
use Rattle.jc_engine.specs.Rows.{AllLend}
use Rattle.jc_cache.specs.Caches.{logs_of}
use Rattle.jc_cache.specs.Closing.{HasFoundHeld, HasLastFound, IsInUse}

-- 1. Own seats.

-- `lends` is so of each lending of the seat
pub record KeepsSeat (lends : State → State → Type 0) (before after : TableId × View) : Type 0 where
  pub lock : after.0 ≡ before.0
  pub session : after.1.session ≡ before.1.session
  pub next_session : after.1.next_session ≡ before.1.next_session
  pub spent : after.1.spent ≡ before.1.spent
  pub same : IsOfSameStripe before.1.noted after.1.noted
  pub front : IsPrefix before.1.front after.1.front
  pub row : List (State × State)
  pub lendings : after.1.lendings ≡ before.1.lendings ++ row
  pub each : AllLend lends row
  pub misses : before.1.misses ≤ after.1.misses

abbrev pub LeavesUnchanged : State → State → Type 0
LeavesUnchanged found left = left ≡ found

abbrev pub Whatever : State → State → Type 0
Whatever found left = Unit {0}

abbrev pub KeepSeats : (State → State → Type 0) → List (TableId × View) → List (TableId × View) → Type 0
KeepSeats lends = AllZip (KeepsSeat lends)

pub record IsFreeSeat (view : View) : Type 0 where
  pub of_none : view.session ≡ None
  pub free : view.holds ≡ false

pub record HasTaken (view : View) (state : State) : Type 0 where
  pub of_none : view.session ≡ None
  pub holds : view.holds ≡ true
  pub noted : view.noted ≡ state
  pub front : IsPrefix view.front (whole_history state)
  pub reached : IsReached state
  pub idle : IsIdle state
  pub later : (given session : ℕ) → view.next_session ≡ Some given → given ≤ session → all_own_steps session state ≡ []

abbrev pub HaveTaken : List (TableId × View) → List State → Type 0
HaveTaken [] [] = Unit {0}
HaveTaken [] (state ∷ states) = ⊥
HaveTaken (seat ∷ seats) [] = IsFreeSeat seat.1 × HaveTaken seats []
HaveTaken (seat ∷ seats) (state ∷ states) = HasTaken seat.1 state × HaveTaken seats states

pub record OwnsSeats (at : List TableId) (own : List (TableId × View)) (states : List State) : Type 0 where
  pub locks : map (λ (seat : TableId × View). seat.0) own ≡ at
  pub taken : HaveTaken own states

pub record KeepsOwn (lends : State → State → Type 0) (before after : List (TableId × View)) (states : List State) : Type 0 where
  pub keeps : KeepSeats lends before after
  pub taken : HaveTaken after states

-- 2. Stripes that are not taken.

abbrev pub IsTakeRefusal : Refusal → View → View → Type 0
IsTakeRefusal refusal before after =
    ((refusal ≡ StillReserved) × HasLastFound before.lendings after.lendings after.noted × (IsIdle after.noted → ⊥))
    ⊎ ((refusal ≡ Busy) × (before.misses < after.misses))

abbrev pub IsRowRefusal : Refusal → List (TableId × View) → List (TableId × View) → Type 0
IsRowRefusal refusal old new =
    ((refusal ≡ StillReserved) × IsInUse (logs_of old) (logs_of new))
    ⊎ ((refusal ≡ Busy) × HasFoundHeld (logs_of old) (logs_of new))

-- 3. Seats of sessions.

pub record AreAtLocks (locks : List TableId) (seats : List (TableId × View)) : Type 0 where
  pub at : map (λ (seat : TableId × View). seat.0) seats ≡ locks
  pub free : (i : ℕ) (seat : TableId × View) → slice_get seats i ≡ Some seat → seat.1.holds ≡ false
