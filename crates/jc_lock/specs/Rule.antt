-- The invariant of the lock round a stripe, between any two steps of its users: one state, with which every seat agrees. No
-- contract of a public function cites this.
--     SeatFits      a seat agrees with the stripe's state: its front is a prefix of the whole history, the noted reservation
--                   number is at most the next one, the noted ended generations are the first of those that have ended, and
--                   unless it is spent it has noted the same stripe; the state has the own steps, in all generations, of its
--                   session, whose only seat it is; and only one seat gives session numbers out
--     IsFree        the word is free: the slot has the stripe, and no seat holds
--     slot_while    the slot while the word is held: it is out with the holder, or empty at home as long as the lock isn't made
--     IsHeld        the word is held: only one of all seats can hold, and its view notes the state; it is unopened or not
--     LockRule      there is one reached state of a stripe with which every seat agrees, and which has no step of a session to
--                   come; the slot has it, or the holder
use Rattle.std.specs.Prelude.{◌≡◌, ℕ, ◌<◌, ◌≤◌, ◌⊎◌, true, false, [], ◌∷◌, Bool, Option, Some, None}
use mathlib.Core.Option.{Option as Option', some, none}
use mathlib.Core.List.{IsPrefix}
use lib.ListN.{get_elem?}
use Rattle.atomic_table.specs.Table.{State as TableState}
use Rattle.jc_stripe.specs.State.{State}
use Rattle.jc_stripe.specs.Reached.{IsReached}
use Rattle.jc_stripe.specs.Generations.{whole_history, IsOfSameStripe}
use Rattle.jc_stripe.specs.Renewal.{all_own_steps}
use Rattle.jc_lock.specs.declared.view.View.{View}

-- the seat with number `seat` and this view. Each session has one seat; the seat `giver` gives out the session numbers, from
-- `given` on
pub record SeatFits (seat_of : ℕ → ℕ) (giver given : ℕ) (now : State) (seat : ℕ) (v : View) : Type 0 where
  pub front : IsPrefix v.front (whole_history now)
  pub joined_front : IsPrefix v.joined_front (whole_history now)
  pub next : v.noted.next ≤ now.next
  pub ended : IsPrefix v.noted.ended now.ended
  pub same : v.spent ≡ false → IsOfSameStripe v.noted now
  pub own : (session : ℕ) → v.session ≡ Some session
      → (seat_of session ≡ seat) × (session < given) × (all_own_steps session now ≡ v.own)
  pub gives : (session : ℕ) → v.next_session ≡ Some session → (giver ≡ seat) × (session ≡ given)

abbrev pub slot_while : {B : Type 0} → Bool → Option' (Option B)
slot_while false = none
slot_while true = some None

-- `value` is the state of the stripe in a box
module _ {B : Type 0} (value : B → State) where
  abbrev pub IsFree : TableState (Option B) View → State → Type 0
  IsFree table now =
      (table.words ≡ 0 ∷ [])
      × ((b : B) × (table.homes ≡ some (Some b) ∷ []) × (value b ≡ now))
      × ((seat : ℕ) (v : View) → get_elem? table.views seat ≡ some v → v.holds ≡ false)

  abbrev pub IsHeld : Bool → TableState (Option B) View → State → Type 0
  IsHeld unopened table now =
      (table.words ≡ 1 ∷ [])
      × (table.homes ≡ slot_while unopened ∷ [])
      × ((holder : ℕ)
      × ((seat : ℕ) (v : View) → get_elem? table.views seat ≡ some v → v.holds ≡ true
      → (seat ≡ holder) × (v.noted ≡ now) × (v.spent ≡ unopened)))

  pub record LockRule (table : TableState (Option B) View) : Type 0 where
    pub seat_of : ℕ → ℕ
    pub giver : ℕ
    pub given : ℕ
    pub now : State
    pub reached : IsReached now
    pub later : (session : ℕ) → given ≤ session → all_own_steps session now ≡ []
    pub each : (seat : ℕ) (v : View) → get_elem? table.views seat ≡ some v → SeatFits seat_of giver given now seat v
    pub place : IsFree table now ⊎ ((unopened : Bool) × IsHeld unopened table now)
