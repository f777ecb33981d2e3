-- The generations of a stripe, one after another. A generation is the history between two renewals.
--     IsEnded               a generation's history is legal from its opening, and these are the entries that it left, in order of
--                           use
--     opening_after         the entries that the generation after these ones opens with, and the given entries after the last one
--     IsChain               each generation left the entries that the next one opens with; the last one left the given entries
--     past_events           the events of all these generations, one after another
--     whole_history         the events of all generations of a stripe, the present one included, one after another
--     whole_place           the place in the whole history that a place in the present generation has
--     first_opening         the entries that the first of all generations of a stripe opened with
--     IsOfSameStripe        two states are of the same stripe, in whatever generations: of one shape, number, origin and first
--                           opening
--     present_generation    the present generation, as it is when it ends
--     after_renewal         the present generation has ended, and a new one opens with the entries that it left
use Rattle.std.specs.Prelude.{◌≡◌, ◌+◌, ℕ, List, [], ◌∷◌, ◌++◌, length}
use Rattle.jc_types.specs.declared.config.Config.{Config}
use Rattle.jc_model.specs.declared.event.Event.{Event}
use Rattle.jc_model.specs.Cache.{Bytes}
use Rattle.jc_model.specs.Legal.{Legal}
use Rattle.jc_stripe.specs.State.{State, Generation}
use Rattle.jc_stripe.specs.OrderOfUse.{by_use}

-- 1. Generations that have ended.

pub record IsEnded (config : Config) (generation : Generation) (left : List (Bytes × Bytes)) : Type 0 where
  pub legal : Legal config generation.opening generation.history
  pub left_is : left ≡ by_use generation.opening generation.history

abbrev pub opening_after : List Generation → List (Bytes × Bytes) → List (Bytes × Bytes)
opening_after [] entries = entries
opening_after (g ∷ gs) entries = g.opening

abbrev pub IsChain : Config → List Generation → List (Bytes × Bytes) → Type 0
IsChain config [] entries = Unit {0}
IsChain config (g ∷ gs) entries = IsEnded config g (opening_after gs entries) × IsChain config gs entries

-- 2. All generations, one after another.

abbrev pub past_events : List Generation → List Event
past_events [] = []
past_events (g ∷ gs) = g.history ++ past_events gs

abbrev pub whole_history : State → List Event
whole_history state = past_events state.ended ++ state.history

abbrev pub whole_place : State → ℕ → ℕ
whole_place state place = length (past_events state.ended) + place

abbrev pub first_opening : State → List (Bytes × Bytes)
first_opening state = opening_after state.ended state.opening

pub record IsOfSameStripe (old new : State) : Type 0 where
  pub config : new.config ≡ old.config
  pub stripe : new.stripe ≡ old.stripe
  pub origin : new.origin ≡ old.origin
  pub lives : new.lives ≡ old.lives
  pub opening : first_opening new ≡ first_opening old

-- 3. A new generation.

abbrev pub present_generation : State → Generation
present_generation state = record { opening = state.opening; history = state.history }

abbrev pub after_renewal : State → State
after_renewal state =
    record state {
      ended = state.ended ++ present_generation state ∷ [];
      opening = by_use state.opening state.history;
      history = [];
    }
