-- The occurrences in a stripe: its events, each with whether its key had an entry before it. Statistics count these.
--     has_entry           the key of an event has an entry among these
--     occurrences         the occurrences of these events from these entries on: an event finds the entries that those before it
--                         left, in the order of use
--     past_occurrences    the occurrences of generations that have ended, one after another, each from its own opening on
--     all_occurrences     the occurrences of all generations of a stripe, the present one included, one after another
use Rattle.std.specs.Prelude.{List, [], ◌∷◌, ◌++◌, Bool, is_some}
use Rattle.std.specs.FinMap as finite
use Rattle.jc_model.specs.declared.event.Event.{Event}
use Rattle.jc_model.specs.Cache.{Bytes, key_cmp}
use Rattle.jc_model.specs.Legal.{event_key}
use Rattle.jc_model.specs.Statistics.{Occurrence}
use Rattle.jc_stripe.specs.State.{State, Generation}
use Rattle.jc_stripe.specs.OrderOfUse.{order_after_event}

abbrev pub has_entry : List (Bytes × Bytes) → Event → Bool
has_entry entries event = is_some (finite.find key_cmp (event_key event) entries)

abbrev pub occurrences : List (Bytes × Bytes) → List Event → List Occurrence
occurrences entries [] = []
occurrences entries (event ∷ events) =
    record { found = has_entry entries event; event = event } ∷ occurrences (order_after_event entries event) events

abbrev pub past_occurrences : List Generation → List Occurrence
past_occurrences [] = []
past_occurrences (g ∷ gs) = occurrences g.opening g.history ++ past_occurrences gs

abbrev pub all_occurrences : State → List Occurrence
all_occurrences state = past_occurrences state.ended ++ occurrences state.opening state.history
