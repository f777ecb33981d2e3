-- The reads of a session for the statistics of a cache.
--     HasRead        a seat has taken its stripe and given it back as it found it, and still has seen what it had seen
--     HasReadEach    each of these seats has read its stripe
--     occurred_in    the statistics of all generations of these stripes, stripe by stripe
--     Reads          a session has read each stripe, and the rest of it is unchanged
use Rattle.std.specs.Prelude.{◌≡◌, ℕ, List, [], ◌∷◌, ◌++◌, Some, slice_get}
use Rattle.atomic_table.specs.Seated.{TableId}
use Rattle.jc_model.specs.Statistics.{Occurrence}
use Rattle.jc_stripe.specs.State.{State}
use Rattle.jc_stripe.specs.Occurrences.{all_occurrences}
use Rattle.jc_lock.specs.declared.view.View.{View}
use Rattle.jc_session.specs.declared.session.Session.{Session}
use Rattle.jc_cache.specs.Fronts.{HasSeen}
use Rattle.jc_cache.specs.Meeting.{IsRefreshed}

pub record HasRead (before after : View) : Type 0 where
  pub refreshed : IsRefreshed before after
  pub on : HasSeen before after

abbrev pub HasReadEach : List (TableId × View) → List (TableId × View) → Type 0
HasReadEach before after =
    (i : ℕ) (a b : TableId × View) → slice_get before i ≡ Some a → slice_get after i ≡ Some b → HasRead a.1 b.1

abbrev pub occurred_in : List State → List Occurrence
occurred_in [] = []
occurred_in (state ∷ states) = all_occurrences state ++ occurred_in states

pub record Reads {I J : Type 0} {D : I → Type 0} {E : J → Type 0} (old new : Session I J D E) : Type 0 where
  pub each : HasReadEach old.seats.items new.seats.items
  pub stays : new.agent ≡ old.agent
