-- A renewal of a stripe: its generation ends, and a new one begins.
--     is_full         the history may lack the places of a call
--     has_parked      an answer of a load is parked
--     can_renew       a generation may end here: the stripe lives on, its history has an event, and no answer is parked
--     is_renewable    a full generation may end here
--     Renews          a generation that may end has ended, and a new one has begun
--     RenewsIfFull    the same if the generation is full and may end; otherwise the stripe stays as it was
--     EndsGeneration  the answer to an end of the generation: how many had ended before, and its events; none, if it may not end
--     StaysOrRenews   the stripe stays as it was, or its generation, which may end, has ended
--     all_own_steps   a session's own steps in all generations
--     IsRenewed       a renewal leaves the same stripe; the whole history, all own steps, the cached entries, and the next
--                     number stay
--     Renewal         the law: each renewal does so
--     live_on         the stripe lives on
--     LivesOn         the laws: a stripe that lives on is reached; and it refuses a call as full only if a number is the last one
use Rattle.std.specs.Prelude.{◌≡◌, ◌⊎◌, ◌≤◌, ◌+◌, ℕ, List, [], ◌++◌, filter, length, Bool, true, false, not, ◌&&◌, min, nat_le}
use Rattle.std.specs.Prelude.{nat_lt, Option, None, Some}
use Rattle.std.specs.List.{list_any}
use Rattle.jc_types.specs.declared.limits.TheConstants.{STEP_PLACES, LAST_NUMBER}
use Rattle.jc_types.specs.declared.caller.Caller.{Caller}
use Rattle.jc_types.specs.declared.refusal.Refusal.TheVariants.{HistoryFull}
use Rattle.jc_model.specs.Cache.{Bytes}
use Rattle.jc_model.specs.declared.event.Event.{Event}
use Rattle.jc_model.specs.declared.event.Op.{Op}
use Rattle.jc_stripe.specs.State.{State, promised}
use Rattle.jc_stripe.specs.Generations.{past_events, whole_history, IsOfSameStripe, after_renewal}
use Rattle.jc_stripe.specs.Reached.{IsReached}
use Rattle.jc_stripe.specs.Refusals.{first_refusal, last_number}
use Rattle.jc_stripe.specs.OnePhase.{is_answered, is_own_step, own_steps}

-- 1. Which generation may end.

abbrev pub is_full : State → Bool
is_full state = not (nat_le (length state.history + promised state + STEP_PLACES) state.config.history)

abbrev pub has_parked : State → Bool
has_parked state = list_any (λ j. is_answered j.state) state.joiners

abbrev pub can_renew : State → Bool
can_renew state = state.lives && nat_lt 0 (length state.history) && not (has_parked state)

abbrev pub is_renewable : State → Bool
is_renewable state = is_full state && can_renew state

-- 2. A renewal.

pub record Renews (old new : State) : Type 0 where
  pub can : can_renew old ≡ true
  pub after : new ≡ after_renewal old

abbrev pub RenewsIfFull : State → State → Type 0
RenewsIfFull old new = (is_renewable old ≡ true → Renews old new) × (is_renewable old ≡ false → new ≡ old)

abbrev pub EndsGeneration : State → Option ℕ → List Event → State → Type 0
EndsGeneration old None events new = (can_renew old ≡ false) × (events ≡ []) × (new ≡ old)
EndsGeneration old (Some number) events new =
    Renews old new × (number ≡ min (length old.ended) LAST_NUMBER) × (events ≡ old.history)

abbrev pub StaysOrRenews : State → State → Type 0
StaysOrRenews old new = (new ≡ old) ⊎ Renews old new

-- nothing is parked in a generation that has ended
abbrev pub all_own_steps : ℕ → State → List Event
all_own_steps session state = filter (is_own_step session []) (past_events state.ended) ++ own_steps session state

pub record IsRenewed (old new : State) : Type 0 where
  pub reached : IsReached new
  pub same : IsOfSameStripe old new
  pub cache : new.cache ≡ old.cache
  pub next : new.next ≡ old.next
  pub empty : new.history ≡ []
  pub whole : whole_history new ≡ whole_history old
  pub own : (session : ℕ) → all_own_steps session new ≡ all_own_steps session old

abbrev pub Renewal : Type 0
Renewal = (old new : State) → IsReached old → Renews old new → IsRenewed old new

-- 3. A stripe that lives on.

abbrev pub live_on : State → State
live_on state = record state { lives = true }

pub record LivesOn : Type 0 where
  pub reached : (state : State) → IsReached state → IsReached (live_on state)
  pub full : (state : State) (caller : Caller) (key : Bytes) (op : Op) → state.lives ≡ true
      → first_refusal state caller key op ≡ Some HistoryFull
      → (last_number ≤ caller.call) ⊎ (last_number ≤ state.next)
