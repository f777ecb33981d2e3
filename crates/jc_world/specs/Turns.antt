-- How a world keeps the order of all its events: as turns, a number for each event, that of the stripe whose event it is. No
-- contract of a public function cites this.
--     history_in       the history of a stripe, and nothing if there is none
--     history_at       the history of the stripe with a number, and nothing if there is no such stripe
--     turns_of         how many of some turns are a stripe's
--     after_turn       what is left of each history once a stripe has had its turn
--     merge            the merge of histories by turns: each turn takes the first event that is left of its stripe's history
--     OrderedStripes   stripes, the order of all their events, and how many turns more there is room for
--     ordered_stripes  what the fields of `Stripes` mean: the order is the merge of the stripes' histories
--     IsPhaseWith      a phase of the stripe with a number, and the order of all events afterwards
--     IsPhase          a phase of the stripe: what it appends to its history is at the end of the order, too
--     IsQuietPhase     a phase that appends nothing: the order stays
--     AreTurns         each stripe has as many turns as its history has events
--     IsMergeable      what is true of the fields: that, and the number of stripes is within its limit, so a number fits a byte
use Rattle.std.specs.Prelude.{◌≡◌, ◌==◌, ◌≤◌, ◌-◌, ℕ, List, [], ◌∷◌, ◌++◌, Option, None, Some, length, take, drop, count_by}
use Rattle.std.specs.Prelude.{slice_get, slice_set, vec_len, vec_capacity, if◌then◌else◌}
use Rattle.jc_types.specs.declared.limits.TheConstants.{STRIPES_MAX}
use Rattle.jc_model.specs.declared.event.Event.{Event}
use Rattle.jc_stripe.specs.State.{State}
use Rattle.jc_world.specs.declared.stripes.Stripes.TheInside.{Inside}

abbrev pub history_in : Option State → List Event
history_in None = []
history_in (Some stripe) = stripe.history

abbrev pub history_at : List State → ℕ → List Event
history_at stripes number = history_in (slice_get stripes number)

abbrev pub turns_of : ℕ → List ℕ → ℕ
turns_of number turns = count_by (λ turn. turn == number) turns

abbrev pub after_turn : (ℕ → List Event) → ℕ → ℕ → List Event
after_turn left turn number = if turn == number then drop 1 (left number) else left number

abbrev pub merge : (ℕ → List Event) → List ℕ → List Event
merge left [] = []
merge left (turn ∷ turns) = take 1 (left turn) ++ merge (after_turn left turn) turns

pub record OrderedStripes : Type 0 where
  pub stripes : List State
  pub order : List Event
  pub room : ℕ

pub record IsPhaseWith (old : OrderedStripes) (number : ℕ) (phase : State → State → Type 0)
    (order : State → State → List Event) (new : OrderedStripes) : Type 0 where
  pub from : State
  pub at : slice_get old.stripes number ≡ Some from
  pub to : State
  pub made : phase from to
  pub stripes_are : new.stripes ≡ slice_set old.stripes number to
  pub order_is : new.order ≡ order from to

abbrev pub IsPhase : OrderedStripes → ℕ → (State → State → Type 0) → OrderedStripes → Type 0
IsPhase old number phase new =
    IsPhaseWith old number phase (λ from to. old.order ++ drop (length from.history) to.history) new

abbrev pub IsQuietPhase : OrderedStripes → ℕ → (State → State → Type 0) → OrderedStripes → Type 0
IsQuietPhase old number phase new = IsPhaseWith old number phase (λ from to. old.order) new

abbrev pub ordered_stripes : Inside → OrderedStripes
ordered_stripes s =
    record {
      stripes = s.items.items;
      order = merge (history_at s.items.items) s.turns.items;
      room = vec_capacity s.turns - vec_len s.turns;
    }

abbrev pub AreTurns : List State → List ℕ → Type 0
AreTurns stripes turns = (number : ℕ) → turns_of number turns ≡ length (history_at stripes number)

pub record IsMergeable (s : Inside) : Type 0 where
  pub turns : AreTurns s.items.items s.turns.items
  pub count : length s.items.items ≤ STRIPES_MAX
