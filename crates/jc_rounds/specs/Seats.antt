-- What the session of a call with many keys has seen of each stripe.
--     view_at      the view of the session's seat at the stripe with this number; if there is no such stripe, the view of a spent
--                  seat
--     view_of      the view at the key's stripe, in a cache of this number of stripes
--     HasGrown     the front begins with the former one, the stripe is the same, its next reservation's number hasn't fallen, and
--                  a front that is the whole history of the noted state is still so; each own step is still there, and there
--                  are these lendings more
--     HasFound     the seat has found the stripe in the first state and left it in the second one, in one lending between these
--                  views
--     is_at        this is the key, and it is of the stripe with this number
--     MovesAtKey   one phase of the call at this key: every front may have grown; what was known of any other key still holds,
--                  and so do the steps of former calls; the stripes have changed only by phases at this key
--     AreBefore    each step that the session has made is of this call or of a former one
use Rattle.std.specs.Prelude.{◌≡◌, ◌≤◌, ◌==◌, ◌&&◌, ℕ, zero, suc, List, [], ◌∷◌, ◌++◌, Bool, true, false}
use Rattle.std.specs.List.{IsAmong}
use Rattle.std.specs.Cmp.Lexicographic.{pointwise}
use mathlib.Core.List.{IsPrefix}
use Rattle.atomic_table.specs.Seated.{TableId}
use Rattle.jc_types.specs.declared.caller.Caller.{Caller}
use Rattle.jc_types.specs.Stripes.{stripe_of}
use Rattle.jc_model.specs.Cache.{Bytes}
use Rattle.jc_model.specs.declared.event.Event.{Event}
use Rattle.jc_stripe.specs.State.{State}
use Rattle.jc_stripe.specs.Generations.{IsOfSameStripe}
use Rattle.jc_lock.specs.declared.view.View.{View}
use Rattle.jc_lock.specs.Views.{spent_view}
use Rattle.jc_cache.specs.Fronts.{HasAllSeen}
use Rattle.jc_rounds.specs.Lendings.{OnlyPhases}
use Rattle.jc_rounds.specs.Recorded.{steps_of, former_steps, are_before}

abbrev pub view_at : List (TableId × View) → ℕ → View
view_at [] i = spent_view
view_at (seat ∷ seats) zero = seat.1
view_at (seat ∷ seats) (suc i) = view_at seats i

abbrev pub view_of : ℕ → List (TableId × View) → Bytes → View
view_of stripes seats key = view_at seats (stripe_of key stripes)

pub record HasGrown (before after : View) : Type 0 where
  pub front : IsPrefix before.front after.front
  pub same : IsOfSameStripe before.noted after.noted
  pub next : before.noted.next ≤ after.noted.next
  pub all : HasAllSeen before → HasAllSeen after
  pub own : (event : Event) → IsAmong before.own event → IsAmong after.own event
  pub row : List (State × State)
  pub lendings : after.lendings ≡ before.lendings ++ row

pub record HasFound (before : View) (seen left : State) (after : View) : Type 0 where
  pub earlier : List (State × State)
  pub since : List (State × State)
  pub lendings : after.lendings ≡ before.lendings ++ (earlier ++ (seen, left) ∷ since)

abbrev pub is_at : ℕ → Bytes → Bytes → ℕ → Bool
is_at stripes key other i = pointwise ◌==◌ key other && (stripe_of key stripes == i)

-- `stripes` is how many stripes there are
pub record MovesAtKey (caller : Caller) (stripes : ℕ) (key : Bytes) (old new : List (TableId × View)) : Type 0 where
  pub grown : (i : ℕ) → HasGrown (view_at old i) (view_at new i)
  pub others : (other : Bytes) (i : ℕ) → is_at stripes key other i ≡ false
      → steps_of caller other (view_at new i).own ≡ steps_of caller other (view_at old i).own
  pub former : (i : ℕ) → former_steps caller (view_at new i).own ≡ former_steps caller (view_at old i).own
  pub numbers : (i : ℕ) → are_before caller (view_at old i).own ≡ true → are_before caller (view_at new i).own ≡ true
  pub phases : (i : ℕ) → OnlyPhases caller (λ other. is_at stripes key other i ≡ true) (view_at old i) (view_at new i)

abbrev pub AreBefore : Caller → List (TableId × View) → Type 0
AreBefore caller seats = (i : ℕ) → are_before caller (view_at seats i).own ≡ true
