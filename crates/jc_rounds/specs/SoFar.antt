-- A bulk call at any moment (`IsSoFar`): what its session has seen of each key, and what is out (`IsUnderway`).
--     is_target_of               the key is one of the call's, and of the stripe with this number
--     IsSoFar                    what the session has seen since before the call: each key is in its state, at its stripe; no
--                                other key has a step of the call, on any stripe; the steps of former calls are as they were; and
--                                at each stripe the call has changed nothing except by phases at its keys there
--     AreIn                      a list with one value for each key whose state fits, in the order of the keys, and each value
--                                fits its key
--     IsUnderway                 the session's current call, which has these reservations and joins out
--     IsKept                     the outcome of a first phase is kept: the state of the key, and its ticket or join
--     IsPicked                   the state of a key after a pick-up
--     KeysAdvance                phases of the call: what has ended stays ended, every front may have grown, and no key is held
--                                back that was not before
--     IsHeldAt, AreHeldBack      the key at this place, or each key before it, if it is held back, was put off between these
--                                views or has joined a load; or the given condition holds
--     HaveNoStep                 no key that is held back has a step of the call
--     AreSettledFrom, AreUnder   no key from a place on is reserved or has joined a load; no key before a place is in such a
--                                state
use Rattle.std.specs.Prelude.{◌≡◌, ◌⊎◌, ◌==◌, ◌&&◌, ◌≤◌, ◌<◌, ◌++◌, ℕ, List, [], ◌∷◌, length, Bool, true, false, Some, Ok, Err}
use Rattle.std.specs.Prelude.{slice_get, MatchBool, if◌then◌else◌}
use Rattle.std.specs.Map.{keys_of}
use Rattle.atomic_table.specs.Seated.{TableId}
use Rattle.jc_types.specs.Stripes.{stripe_of}
use Rattle.jc_types.specs.Refusals.{is_put_off}
use Rattle.jc_types.specs.declared.caller.Caller.{Caller}
use Rattle.jc_types.specs.declared.config.Config.{Config}
use Rattle.jc_model.specs.Batches.{is_among}
use Rattle.jc_model.specs.Cache.{Bytes}
use Rattle.jc_model.specs.declared.event.Op.{Op}
use Rattle.jc_stripe.specs.Tickets.{JoinClaim, TicketClaim}
use Rattle.jc_stripe.specs.declared.ticket.Reservation.{Reservation}
use Rattle.jc_stripe.specs.Outcomes.{Begun}
use Rattle.jc_stripe.specs.Polled.{Polled}
use Rattle.jc_stripe.specs.Outcomes as begun
use Rattle.jc_stripe.specs.Polled as polled
use Rattle.jc_lock.specs.declared.view.View.{View}
use Rattle.jc_cache.specs.Caches.{CacheState}
use Rattle.jc_cache.specs.Sessions.{IsOf}
use Rattle.jc_session.specs.declared.session.Session.{Session}
use Rattle.jc_rounds.specs.declared.progress.KeyProgress.{KeyProgress}
use Rattle.jc_rounds.specs.declared.progress.KeyProgress.TheVariants.{Waiting, Reserved, Joined, Ended}
use Rattle.jc_rounds.specs.KeyProgress.{StayEnded, holds_reservation, is_held_back, is_settled, waits_for_joined_load}
use Rattle.jc_rounds.specs.Keys.{IsAt, IsHeldBack, IsJoinFor, IsTicketFor}
use Rattle.jc_rounds.specs.Lendings.{OnlyPhases}
use Rattle.jc_rounds.specs.Recorded.{former_steps, steps_of}
use Rattle.jc_rounds.specs.Rounds.{Round}
use Rattle.jc_rounds.specs.Seats.{AreBefore, HasGrown, view_at, view_of}

abbrev pub is_target_of : ℕ → List (Bytes × Op) → Bytes → ℕ → Bool
is_target_of stripes targets key i = is_among (keys_of targets) key && (stripe_of key stripes == i)

-- `old` are the session's seats before the call, `stripes` is how many stripes there are
pub record IsSoFar (config : Config) (caller : Caller) (stripes : ℕ) (targets : List (Bytes × Op)) (rounds : List Round)
    (old new : List (TableId × View)) (progress : List KeyProgress) : Type 0 where
  pub grown : (i : ℕ) → HasGrown (view_at old i) (view_at new i)
  pub phases : (i : ℕ) → OnlyPhases caller (λ key. is_target_of stripes targets key i ≡ true) (view_at old i) (view_at new i)
  pub numbers : AreBefore caller new
  pub former : (i : ℕ) → former_steps caller (view_at new i).own ≡ former_steps caller (view_at old i).own
  pub many : length progress ≡ length targets
  pub each : (place : ℕ) (key : Bytes) (op : Op) (p : KeyProgress) → slice_get targets place ≡ Some (key, op)
      → slice_get progress place ≡ Some p
      → IsAt config caller rounds (view_of stripes old key) (view_of stripes new key) key op p
  pub others : (key : Bytes) (i : ℕ) → is_target_of stripes targets key i ≡ false → steps_of caller key (view_at new i).own ≡ []

abbrev pub AreIn : {X : Type 0} → (KeyProgress → Bool) → (Bytes → Op → X → Type 0) → List (Bytes × Op) → List KeyProgress
    → List X → Type 0
AreIn has fits [] progress xs = xs ≡ []
AreIn has fits (t ∷ ts) [] xs = xs ≡ []
AreIn has fits (t ∷ ts) (p ∷ ps) [] = (has p ≡ false) × AreIn has fits ts ps []
AreIn has fits (t ∷ ts) (p ∷ ps) (x ∷ xs) =
    MatchBool (has p) (fits t.0 t.1 x × AreIn has fits ts ps xs) (AreIn has fits ts ps (x ∷ xs))

pub record IsUnderway
    {I J : Type 0} {D : I → Type 0} {E : J → Type 0}
    (cache : CacheState) (caller : Caller) (targets : List (Bytes × Op)) (rounds : List Round) (old : List (TableId × View))
    (session : Session I J D E) (progress : List KeyProgress) (calls : List Reservation) (joins : List JoinClaim) : Type 0 where
  pub own : IsOf cache session
  pub caller_is : session.agent.caller ≡ caller
  pub reservations : session.agent.counts.reservations ≡ length calls
  pub joins_out : session.agent.counts.joins ≡ length joins
  pub so_far : IsSoFar cache.config caller cache.config.stripes targets rounds old session.seats.items progress
  pub calls_are : AreIn holds_reservation (IsTicketFor caller cache.config) targets progress calls
  pub joins_are : AreIn waits_for_joined_load (λ key op join. IsJoinFor caller (view_of cache.config.stripes old key) key op join)
      targets progress joins

-- 2. Parts of a round.

abbrev pub IsKept : Begun → KeyProgress → List TicketClaim → List TicketClaim → List JoinClaim → List JoinClaim → Type 0
IsKept (begun.Done done) p tickets tickets' joins joins' = (p ≡ Ended (Ok done.reply)) × (tickets' ≡ tickets) × (joins' ≡ joins)
IsKept (begun.Refused refusal) p tickets tickets' joins joins' =
    (p ≡ (if is_put_off refusal then Waiting else Ended (Err refusal))) × (tickets' ≡ tickets) × (joins' ≡ joins)
IsKept (begun.Asks ticket) p tickets tickets' joins joins' = (p ≡ Reserved) × (tickets' ≡ tickets ++ ticket ∷ []) × (joins' ≡ joins)
IsKept (begun.Joined join) p tickets tickets' joins joins' = (p ≡ Joined) × (tickets' ≡ tickets) × (joins' ≡ joins ++ join ∷ [])

abbrev pub IsPicked : Polled → KeyProgress → Type 0
IsPicked (polled.Answer reply place shared_with) p = p ≡ Ended (Ok reply)
IsPicked polled.Again p = p ≡ Waiting
IsPicked (polled.NotYet join) p = ⊥

abbrev pub AreSettledFrom : ℕ → List KeyProgress → Type 0
AreSettledFrom from progress =
    (place : ℕ) (p : KeyProgress) → from ≤ place → slice_get progress place ≡ Some p → is_settled p ≡ true

abbrev pub AreUnder : (KeyProgress → Bool) → ℕ → List KeyProgress → Type 0
AreUnder has end progress = (place : ℕ) (p : KeyProgress) → place < end → slice_get progress place ≡ Some p → has p ≡ false

pub record KeysAdvance (old new : List (TableId × View)) (progress later : List KeyProgress) : Type 0 where
  pub stay : StayEnded progress later
  pub grown : (i : ℕ) → HasGrown (view_at old i) (view_at new i)
  pub held : (place : ℕ) (p : KeyProgress) → slice_get later place ≡ Some p → is_held_back p ≡ true
      → (q : KeyProgress) × (slice_get progress place ≡ Some q) × (is_held_back q ≡ true)

abbrev pub IsHeldAt : Type 0 → ℕ → Caller → ℕ → List (Bytes × Op) → List (TableId × View) → List (TableId × View)
    → List KeyProgress → Type 0
IsHeldAt full place caller stripes targets old new progress =
    (key : Bytes) (op : Op) (p : KeyProgress) → slice_get targets place ≡ Some (key, op) → slice_get progress place ≡ Some p
    → is_held_back p ≡ true
    → full ⊎ IsHeldBack caller (view_of stripes old key) (view_of stripes new key) key op

abbrev pub AreHeldBack : Type 0 → ℕ → Caller → ℕ → List (Bytes × Op) → List (TableId × View) → List (TableId × View)
    → List KeyProgress → Type 0
AreHeldBack full end caller stripes targets old new progress =
    (place : ℕ) → place < end → IsHeldAt full place caller stripes targets old new progress

abbrev pub HaveNoStep : Caller → ℕ → List (Bytes × Op) → List (TableId × View) → List KeyProgress → Type 0
HaveNoStep caller stripes targets seats progress =
    (place : ℕ) (key : Bytes) (op : Op) (p : KeyProgress) → slice_get targets place ≡ Some (key, op)
    → slice_get progress place ≡ Some p → is_held_back p ≡ true
    → steps_of caller key (view_of stripes seats key).own ≡ []
