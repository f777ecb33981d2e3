-- What each step of the lock round a stripe does to the seat that makes it. `step` is the step, `me` the seat before it and `me'`
-- after it; a seat is a view and the slots that it has taken. No contract of a public function cites this.
--     Opens            the first seat has the slot, which is empty, and is a seat from now on
--     state_in_hand    the state of the stripe in the slot that the seat has taken
--     Takes            a take that finds the word free has the slot, and the state in it is one that the seat may find; a take
--                      that finds the word held leaves what `missed` states of the seat's view
--     Gives            a give leaves the seat with the state that it gives
--     MergesFronts     the front becomes the longer one of its own and the one that was joined; both are prefixes of it, and it
--                      is one of the noted whole history if the seat holds
use Rattle.std.specs.Prelude.{◌≡◌, ◌≢◌, ℕ, true, List, [], ◌∷◌, Option, Some, None}
use mathlib.Core.List.{IsPrefix}
use Rattle.atomic_table.specs.Table.{Me, Step, rest}
use Rattle.jc_stripe.specs.State.{State}
use Rattle.jc_stripe.specs.Generations.{whole_history}
use Rattle.jc_lock.specs.declared.view.View.{View}
use Rattle.jc_lock.specs.Views.{Finds, empty_stripe, opened_view, after_take, after_give, with_longer_front}

module _ {B : Type 0} (value : B → State) where
  abbrev pub state_in_hand : List (ℕ × Option B) → State
  state_in_hand [] = empty_stripe
  state_in_hand (slot ∷ slots) = elim slot.1 [ Some b ↦ value b | None ↦ empty_stripe ]

  abbrev pub Takes : (View → View) → Step (Option B) → Me (Option B) View → ℕ → Me (Option B) View → Type 0
  Takes missed step me found me' =
      (found ≡ 0 → (b : B) × (me' ≡ (after_take me.0 (value b), (0, Some b) ∷ me.1)) × Finds me.0 (value b))
      × (found ≢ 0 → me' ≡ (missed me.0, me.1))

  abbrev pub Gives : Step (Option B) → Me (Option B) View → ℕ → Me (Option B) View → Type 0
  Gives step me found me' = me' ≡ (after_give me.0 (state_in_hand me.1), rest me.1)

abbrev pub Opens : {B : Type 0} → Step (Option B) → Me (Option B) View → ℕ → Me (Option B) View → Type 0
Opens step me found me' = me' ≡ (opened_view me.0, (0, None) ∷ me.1)

abbrev pub MergesFronts : {B : Type 0} → Step (Option B) → Me (Option B) View → ℕ → Me (Option B) View → Type 0
MergesFronts step me found me' =
    (me' ≡ (with_longer_front me.0, me.1))
    × IsPrefix me.0.front me'.0.front
    × IsPrefix me.0.joined_front me'.0.front
    × (me.0.holds ≡ true → IsPrefix me'.0.front (whole_history me.0.noted))
