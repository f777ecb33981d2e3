-- What a session's seat knows of the stripe behind a lock (the seat's view), and how each call of the lock changes that.
--     IsPhaseBy            at most one phase of a seat's session leads from one state to another; none, if the seat is no
--                          session's
--     IsTurnBy             as `IsPhaseBy`, or a renewal leads from one to the other
--     empty_stripe         a stripe of the smallest shape with nothing in it, which a seat that is gone notes
--     unopened_view        the first seat of a lock that isn't made yet: it holds the stripe, and the slot is empty
--     opened_view          the first seat once it has taken the slot
--     first_view           the first seat of a lock, which gives out session numbers, beginning with 0
--     spent_view           a seat that is gone
--     Finds                the states that a take of a seat may find: a reached state of the noted stripe, whose next reservation
--                          number is at least the noted one, with the noted ended generations first among those that have ended,
--                          and the seat's front as a prefix of its whole history; its own steps of the seat's session, in all
--                          generations, are just those of the seat, and it has none of a session that the seat has yet to give
--                          out
--     after_take           a take notes the state that it found
--     own_steps_of         the own steps of a session in a state, in all generations; none, if there is no session
--     after_give           a give leaves the seat with the whole history, all generations one after another, as its front, and
--                          one more lending
--     after_miss           a try that found the stripe held by somebody else
--     session_number       the number in an option, if it has one
--     after_split          the seat that gave out a session number
--     session_view         the seat of the session that got the number
--     front_note           a note of a seat's front, in a seat of its own
--     with_note            a seat into which a note, or a seat that ends, was joined: the lendings and misses are added
--     longer               the longer one of two lists
--     with_longer_front    the seat with the longer front of its own and the note's
--     after_join           a seat into which another one was joined: `with_note`, and then the longer front
--     IsSeated             a seat isn't spent; if it holds the stripe, it has the slot, which is empty, otherwise it has no slot
use Rattle.std.specs.Prelude.{◌≡◌, ℕ, ◌+◌, ◌≤◌, ◌⊎◌, true, false, List, [], ◌∷◌, ◌++◌, length, Option, Some, None, cond, nat_lt}
use Rattle.std.specs.FinMap as map
use mathlib.Core.List.{IsPrefix}
use Rattle.atomic_table.specs.Table.{Me}
use Rattle.jc_model.specs.declared.event.Event.{Event}
use Rattle.jc_outside.specs.declared.done.Origin.TheVariants.{Played}
use Rattle.jc_stripe.specs.State.{State}
use Rattle.jc_stripe.specs.Reached.{IsReached}
use Rattle.jc_stripe.specs.Generations.{whole_history, IsOfSameStripe}
use Rattle.jc_stripe.specs.Renewal.{Renews, all_own_steps}
use Rattle.jc_stripe.specs.OnePhase.{IsPhaseOf}
use Rattle.jc_lock.specs.declared.view.View.{View}

abbrev pub IsPhaseBy : Option ℕ → State → State → Type 0
IsPhaseBy None old new = new ≡ old
IsPhaseBy (Some session) old new = IsPhaseOf session old new

abbrev pub IsTurnBy : Option ℕ → State → State → Type 0
IsTurnBy session old new = IsPhaseBy session old new ⊎ Renews old new

-- 1. Seats from the beginning, and seats that are gone.

abbrev pub empty_stripe : State
empty_stripe =
    record {
      config = record { stripes = 1; capacity = 1; history = 16; read_through = false; write_through = false };
      stripe = 0;
      origin = Played;
      lives = false;
      ended = [];
      opening = [];
      cache = map.empty;
      reservations = [];
      joiners = [];
      history = [];
      next = 0;
      marked = [];
      shut = false;
    }

abbrev pub first_view : State → View
first_view state =
    record {
      session = None;
      next_session = Some 0;
      spent = false;
      holds = false;
      front = whole_history state;
      joined_front = [];
      own = [];
      noted = state;
      lendings = (state, state) ∷ [];
      misses = 0;
    }

abbrev pub unopened_view : State → View
unopened_view state = record (first_view state) { spent = true; holds = true; lendings = [] }

abbrev pub opened_view : View → View
opened_view v = record v { spent = false }

abbrev pub spent_view : View
spent_view =
    record {
      session = None;
      next_session = None;
      spent = true;
      holds = false;
      front = [];
      joined_front = [];
      own = [];
      noted = empty_stripe;
      lendings = [];
      misses = 0;
    }

-- 2. A take and a give.

pub record Finds (v : View) (state : State) : Type 0 where
  pub reached : IsReached state
  pub front : IsPrefix v.front (whole_history state)
  pub next : v.noted.next ≤ state.next
  pub ended : IsPrefix v.noted.ended state.ended
  pub same : IsOfSameStripe v.noted state
  pub own : (session : ℕ) → v.session ≡ Some session → all_own_steps session state ≡ v.own
  pub later : (given session : ℕ) → v.next_session ≡ Some given → given ≤ session → all_own_steps session state ≡ []

abbrev pub after_take : View → State → View
after_take v state = record v { holds = true; noted = state }

abbrev pub own_steps_of : Option ℕ → State → List Event
own_steps_of None state = []
own_steps_of (Some session) state = all_own_steps session state

abbrev pub after_give : View → State → View
after_give v state =
    record v {
      holds = false;
      front = whole_history state;
      own = own_steps_of v.session state;
      noted = state;
      lendings = v.lendings ++ (v.noted, state) ∷ [];
    }

abbrev pub after_miss : View → View
after_miss v = record v { misses = v.misses + 1 }

-- 3. A new session.

abbrev pub session_number : Option ℕ → ℕ
session_number None = 0
session_number (Some session) = session

abbrev pub after_split : View → View
after_split v = record v { next_session = Some (session_number v.next_session + 1) }

abbrev pub session_view : View → View
session_view v =
    record {
      session = Some (session_number v.next_session);
      next_session = None;
      spent = v.spent;
      holds = false;
      front = v.front;
      joined_front = [];
      own = [];
      noted = v.noted;
      lendings = [];
      misses = 0;
    }

-- 4. Telling one seat what another has seen.

abbrev pub front_note : View → View
front_note v =
    record v { session = None; next_session = None; holds = false; joined_front = []; own = []; lendings = []; misses = 0 }

abbrev pub with_note : View → View → View
with_note v w = record v { joined_front = w.front; lendings = v.lendings ++ w.lendings; misses = v.misses + w.misses }

abbrev pub longer : List Event → List Event → List Event
longer xs ys = cond (nat_lt (length xs) (length ys)) ys xs

abbrev pub with_longer_front : View → View
with_longer_front v = record v { front = longer v.front v.joined_front; joined_front = [] }

abbrev pub after_join : View → View → View
after_join v w = with_longer_front (with_note v w)

-- 5. The slots of a seat.

abbrev pub IsSeated : {B : Type 0} → Me (Option B) View → Type 0
IsSeated me = (me.0.spent ≡ false) × (((me.0.holds ≡ false) × (me.1 ≡ [])) ⊎ ((me.0.holds ≡ true) × (me.1 ≡ (0, None) ∷ [])))
