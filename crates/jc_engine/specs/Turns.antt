-- The turns of a call at its key's stripe: each is a phase that it makes there, with its reasons to wait before; and the row of
-- lendings of a whole call, turn by turn.
--     StartWaits    a first phase had to wait: it couldn't be made, or was put off
--     starting      the turn of a first phase that waits; a get may also have looked for a hit in vain
--     trying        the turn of a first phase that never waits, and is made only if it asks nobody
--     picking       the turn of a pick-up that waits
--     committing    the turn of a commit
--     IsRejoin      these lendings are two turns: a load was joined, and the call was told to retry
--     AreRejoins    this many such pairs of turns
--     IsBegunRow    such pairs of turns, and then the first phase with this outcome
--     EndsBy        the end of a call after its first phase: its result, its outside answers, and its lendings from there on
--     IsCallRow     the lendings of a whole call: loads that it joined in vain, its first phase, and its end
--     HasLookedFirst
--                   the lendings of a get: in the first one it found its entry, and there are no others; or it couldn't be a hit
--                   there, and left the stripe as it was
--     state_of_step the state in which a call's step was made, by the outcome of its first phase: that of its commit, if it
--                   needed an outside answer, and otherwise that in which its first phase found the stripe
--     state_found, state_decided
--                   the state in which a call's first phase found the stripe, and the one in which its step was made
use Rattle.std.specs.Prelude.{◌≡◌, ◌⊎◌, ◌++◌, ℕ, zero, suc, List, [], ◌∷◌, true, IsTrue, Result, Ok, Err}
use Rattle.jc_types.specs.declared.caller.Caller.{Caller}
use Rattle.jc_types.specs.declared.refusal.Refusal.{Refusal}
use Rattle.jc_model.specs.Cache.{Bytes}
use Rattle.jc_model.specs.Group.{nothing_said}
use Rattle.jc_model.specs.declared.event.Op.{Op}
use Rattle.jc_model.specs.declared.event.Op.TheVariants.{Get}
use Rattle.jc_model.specs.declared.event.Out.{Out}
use Rattle.jc_model.specs.declared.event.Reply.{Reply}
use Rattle.jc_stripe.specs.State.{State, IsJoined, IsOut}
use Rattle.jc_stripe.specs.Phases.{PicksUp}
use Rattle.jc_stripe.specs.Invalidating.{Ends}
use Rattle.jc_stripe.specs.Tickets.{JoinClaim}
use Rattle.jc_stripe.specs.Outcomes.{Begun, StepDone}
use Rattle.jc_stripe.specs.Polled.{Polled}
use Rattle.jc_stripe.specs.Outcomes as begun
use Rattle.jc_stripe.specs.Polled as polled
use Rattle.jc_stripe.specs.declared.ticket.Reservation.{Reservation}
use Rattle.jc_engine.specs.declared.first.How.{How}
use Rattle.jc_engine.specs.declared.first.How.TheVariants.{Waits, Alone}
use Rattle.jc_engine.specs.Rows.{IsTurn, Turn, turn_of}
use Rattle.jc_engine.specs.Doors.{HasWaited}
use Rattle.jc_engine.specs.Needs.{HasMissed, Hits, IsPutOff, IsTooEarly, Starts, StartsBy, can_start}

-- 1. One turn.

abbrev pub StartWaits : How → Caller → Bytes → Op → State → State → Type 0
StartWaits how caller key op = HasWaited (λ a. IsTrue (can_start how a caller key op)) (IsPutOff how caller key op)

abbrev pub starting : Caller → Bytes → Op → Begun → Turn
starting caller key op begun =
    turn_of (λ a b. StartWaits Waits caller key op a b ⊎ ((op ≡ Get) × HasMissed caller key a b)) (Starts caller key op begun)

abbrev pub trying : Caller → Bytes → Op → Begun → Turn
trying caller key op begun = turn_of (StartWaits Alone caller key op) (StartsBy Alone caller key op begun)

abbrev pub picking : JoinClaim → Polled → Turn
picking join picked = turn_of (HasWaited (λ a. IsJoined a join) (IsTooEarly true join)) (λ a b. PicksUp a join picked b)

abbrev pub committing : Reservation → Out → StepDone → Turn
committing r out done = turn_of (HasWaited (λ a. IsOut a r) (λ a. ⊥)) (λ a b. Ends a r out done b)

-- 2. A whole call.

module _ (caller : Caller) (key : Bytes) (op : Op) where
  pub record IsRejoin (row : List (State × State)) : Type 0 where
    pub join : JoinClaim
    pub joins : List (State × State)
    pub retries : List (State × State)
    pub row_is : row ≡ joins ++ retries
    pub joined : IsTurn (starting caller key op (begun.Joined join)) joins
    pub retried : IsTurn (picking join polled.Again) retries

  abbrev pub AreRejoins : ℕ → List (State × State) → Type 0
  AreRejoins zero row = row ≡ []
  AreRejoins (suc n) row =
      (before : List (State × State)) × (last : List (State × State)) × (row ≡ before ++ last) × AreRejoins n before × IsRejoin last

  pub record IsBegunRow (begun : Begun) (row : List (State × State)) : Type 0 where
    pub rounds : ℕ
    pub rejoins : List (State × State)
    pub first : List (State × State)
    pub row_is : row ≡ rejoins ++ first
    pub rejoined : AreRejoins rounds rejoins
    pub starts : IsTurn (starting caller key op begun) first

abbrev pub EndsBy : Begun → Out → Result Reply Refusal → List (State × State) → Type 0
EndsBy (begun.Done done) asked ended row = (ended ≡ Ok done.reply) × (asked ≡ nothing_said) × (row ≡ [])
EndsBy (begun.Refused refusal) asked ended row = (ended ≡ Err refusal) × (asked ≡ nothing_said) × (row ≡ [])
EndsBy (begun.Asks ticket) asked ended row =
    (done : StepDone) × (ended ≡ Ok done.reply) × IsTurn (committing ticket.reservation asked done) row
EndsBy (begun.Joined join) asked ended row =
    (reply : Reply) × (place : ℕ) × (shared_with : ℕ) × (ended ≡ Ok reply) × (asked ≡ nothing_said)
    × IsTurn (picking join (polled.Answer reply place shared_with)) row

pub record IsCallRow (caller : Caller) (key : Bytes) (op : Op) (asked : Out) (ended : Result Reply Refusal)
    (row : List (State × State)) : Type 0 where
  pub begun : Begun
  pub start : List (State × State)
  pub last : List (State × State)
  pub row_is : row ≡ start ++ last
  pub begins : IsBegunRow caller key op begun start
  pub ends : EndsBy begun asked ended last

pub record HasLookedFirst (caller : Caller) (key : Bytes) (row : List (State × State)) : Type 0 where
  pub found : State
  pub left : State
  pub others : List (State × State)
  pub row_is : row ≡ (found, left) ∷ others
  pub look : HasMissed caller key found left ⊎ ((others ≡ []) × ((value : Bytes) × Hits caller key true value found left))

-- 3. The states that decide a call.

abbrev pub state_of_step : (b : Begun) (asked : Out) (ended : Result Reply Refusal) (row : List (State × State)) → State
    → EndsBy b asked ended row → State
state_of_step (begun.Asks ticket) asked ended row first ends = ends.2.found
state_of_step (begun.Done done) asked ended row first ends = first
state_of_step (begun.Refused refusal) asked ended row first ends = first
state_of_step (begun.Joined join) asked ended row first ends = first

module _ {caller : Caller} {key : Bytes} {op : Op} {asked : Out} {ended : Result Reply Refusal} {row : List (State × State)} where
  abbrev pub state_found : IsCallRow caller key op asked ended row → State
  state_found did = did.begins.starts.found

  abbrev pub state_decided : IsCallRow caller key op asked ended row → State
  state_decided did = state_of_step did.begun asked ended did.last (state_found did) did.ends
