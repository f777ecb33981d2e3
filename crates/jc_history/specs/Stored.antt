-- The events of a history as they are stored: as bytes, one after another, each with the index at which it starts. No contract of a
-- public function cites this.
--     event_at      the event that starts at an index
--     events_at     the events that start at these indexes
--     IsComplete    all bytes of the event at an index are there: what follows them makes no difference
use Rattle.std.specs.Prelude.{◌≡◌, ℕ, ◌≤◌, List, ◌++◌, length, map, drop}
use Rattle.jc_model.specs.declared.event.Event.{Event}
use Rattle.jc_history.specs.Decoding.{decode_event}

-- the event that starts at an index
unfoldable pub event_at : List ℕ → ℕ → Event
event_at bytes start = (decode_event (drop start bytes)).0

-- the events that start at these indexes
abbrev pub events_at : List ℕ → List ℕ → List Event
events_at bytes starts = map (event_at bytes) starts

-- all bytes of the event at an index are there: what follows them makes no difference
pub record IsComplete (bytes : List ℕ) (start : ℕ) : Type 0 where
  pub within : start ≤ length bytes
  pub same : (more : List ℕ) → event_at (bytes ++ more) start ≡ event_at bytes start
