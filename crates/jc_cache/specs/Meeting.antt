-- What two sessions of one cache know once they have met: the teller has told the hearer what it has seen.
--     IsRefreshed       a seat has taken its stripe once and given it back as it found it, and its front is then the stripe's
--                       whole history
--     TellsAt           at one stripe: the teller's seat was refreshed; both fronts may be longer, and the own steps are the
--                       former ones; the teller's front is a prefix of the hearer's, whose seat has no new lending
--     TellEach          the teller has told the hearer at each stripe: two rows of seats before and after
--     Meets             one session has told the other at each stripe; the rest of both is unchanged
--     HaveMet           as `Meets`, and both may call the cache again
--     IsSessionSeat     a seat of this session at this lock, which has not taken the stripe
--     AreSessionSeats   each of these seats is one of this session's, at its lock
--     KeepRow           these seats are at the same locks, and have as many own steps
use Rattle.std.specs.Prelude.{◌≡◌, ℕ, List, [], map, false, Some, slice_get}
use mathlib.Core.List.{IsPrefix}
use Rattle.atomic_table.specs.Seated.{TableId}
use Rattle.jc_stripe.specs.State.{State}
use Rattle.jc_lock.specs.Views.{Finds, after_give, after_take}
use Rattle.jc_lock.specs.declared.view.View.{View}
use Rattle.jc_session.specs.declared.session.Session.{Session}
use Rattle.jc_cache.specs.Fronts.{HasSeen}
use Rattle.jc_cache.specs.Turns.{HasLent}
use Rattle.jc_cache.specs.Caches.{CacheState}
use Rattle.jc_cache.specs.Sessions.{MayCall, own_total}

-- 1. What is told.

pub record IsRefreshed (before after : View) : Type 0 where
  pub found : State
  pub finds : Finds before found
  pub is : after ≡ after_give (after_take before found) found

pub record TellsAt (teller hearer teller' hearer' : View) : Type 0 where
  pub refreshed : IsRefreshed teller teller'
  pub teller_on : HasSeen teller teller'
  pub hearer_on : HasSeen hearer hearer'
  pub told : IsPrefix teller'.front hearer'.front
  pub none_lent : HasLent hearer [] hearer'

abbrev pub TellEach : List (TableId × View) → List (TableId × View) → List (TableId × View) → List (TableId × View) → Type 0
TellEach tellers hearers tellers' hearers' =
    (i : ℕ) (a b a' b' : TableId × View) → slice_get tellers i ≡ Some a → slice_get hearers i ≡ Some b
    → slice_get tellers' i ≡ Some a' → slice_get hearers' i ≡ Some b' → TellsAt a.1 b.1 a'.1 b'.1

pub record Meets {I J : Type 0} {D : I → Type 0} {E : J → Type 0} (teller hearer teller' hearer' : Session I J D E) : Type 0 where
  pub each : TellEach teller.seats.items hearer.seats.items teller'.seats.items hearer'.seats.items
  pub teller_stays : teller'.agent ≡ teller.agent
  pub hearer_stays : hearer'.agent ≡ hearer.agent

pub record HaveMet {I J : Type 0} {D : I → Type 0} {E : J → Type 0} (cache : CacheState)
    (from to from' to' : Session I J D E) : Type 0 where
  pub teller : MayCall cache from'
  pub hearer : MayCall cache to'
  pub met : Meets from to from' to'

-- 2. Rows of seats.

pub record IsSessionSeat (lock : TableId) (session : ℕ) (seat : TableId × View) : Type 0 where
  pub at : seat.0 ≡ lock
  pub session_is : seat.1.session ≡ Some session
  pub free : seat.1.holds ≡ false

abbrev pub AreSessionSeats : List TableId → ℕ → List (TableId × View) → Type 0
AreSessionSeats locks session seats = (map (λ (seat : TableId × View). seat.0) seats ≡ locks)
    × ((i : ℕ) (seat : TableId × View) → slice_get seats i ≡ Some seat → IsSessionSeat seat.0 session seat)

pub record KeepRow (before after : List (TableId × View)) : Type 0 where
  pub locks : map (λ (seat : TableId × View). seat.0) after ≡ map (λ (seat : TableId × View). seat.0) before
  pub total : own_total after ≡ own_total before
