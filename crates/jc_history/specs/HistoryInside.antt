-- The meaning of the fields of a history. No contract of a public function cites this.
--     past_of         the past that the fields mean
--     IsStored        the past is within its limit, each event is complete, and there is room for all that the past may hold
--     CanAppend       each event is complete, and there is room for one more
--     AppendsEvent    this event is appended: it is the last one, and each is complete
use Rattle.std.specs.Prelude.{◌≡◌, ℕ, ◌≤◌, ◌<◌, ◌+◌, ◌*◌, ◌^◌, ◌++◌, ◌∷◌, [], All, length, vec_len, vec_capacity}
use Rattle.std.specs.Global.{Vec}
use Rattle.jc_model.specs.declared.event.Event.{Event}
use Rattle.jc_history.specs.declared.room.TheConstants.{EVENT_ROOM}
use Rattle.jc_history.specs.declared.history.History.TheInside.{Inside}
use Rattle.jc_history.specs.Past.{Past, IsWithinLimit}
use Rattle.jc_history.specs.Stored.{events_at, IsComplete}

-- the past that the fields mean
abbrev pub past_of : Inside → Past
past_of h =
    record { limit = h.limit; events = events_at h.bytes.items h.starts.items; promised = h.promised; statistics = h.statistics }

-- the past is within its limit, each event is complete, and there is room for all that the past may hold
pub record IsStored (h : Inside) : Type 0 where
  pub within : IsWithinLimit (past_of h)
  pub complete : All (IsComplete h.bytes.items) h.starts.items
  pub few : length h.bytes.items ≤ length h.starts.items * EVENT_ROOM
  pub bytes_room : h.limit * EVENT_ROOM ≤ vec_capacity h.bytes
  pub starts_room : h.limit ≤ vec_capacity h.starts

-- each event is complete, and there is room for one more
pub record CanAppend (bytes starts : Vec ℕ) : Type 0 where
  pub complete : All (IsComplete bytes.items) starts.items
  pub bytes_room : vec_len bytes + EVENT_ROOM ≤ vec_capacity bytes
  pub starts_room : vec_len starts < vec_capacity starts
  pub small : vec_len bytes < 2 ^ 32

-- this event is appended: it is the last one, and each is complete
pub record AppendsEvent (bytes starts : Vec ℕ) (event : Event) (bytes' starts' : Vec ℕ) : Type 0 where
  pub events : events_at bytes'.items starts'.items ≡ events_at bytes.items starts.items ++ event ∷ []
  pub complete : All (IsComplete bytes'.items) starts'.items
  pub few : vec_len bytes' ≤ vec_len bytes + EVENT_ROOM
  pub bytes_room : vec_capacity bytes ≤ vec_capacity bytes'
  pub len : vec_len starts' ≡ vec_len starts + 1
  pub starts_room : vec_capacity starts' ≡ vec_capacity starts
