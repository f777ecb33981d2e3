-- A bulk call from its memory to its end: the room that it takes before its first phase, and the keys that failed. No contract of a
-- public function cites this.
--     IsRoomOf    the memory that a call of this kind takes before its first phase, for this number of keys in a cache of this
--                 number of stripes
--     IsRoomOfCall   as `IsRoomOf`, for these keys, which differ, and each of which asks outside as the call's kind does
--     IsCallEnd      a call for these keys was carried out, and this is its end, with each key that failed
use Rattle.std.specs.Prelude.{◌≡◌, ◌==◌, ◌≤◌, ℕ, List, [], length}
use Rattle.std.specs.List.{IsDistinct}
use Rattle.std.specs.Map.{keys_of}
use Rattle.std.specs.Cmp.Lexicographic.{pointwise}
use Rattle.indexmap.specs.IndexMap.{spare}
use Rattle.jc_model.specs.Cache.{Bytes}
use Rattle.jc_model.specs.declared.event.Op.{Op}
use Rattle.jc_cache.specs.Caches.{CacheState}
use Rattle.jc_session.specs.declared.session.Session.{Session}
use Rattle.jc_rounds.specs.Ends.{failed_entries, key_ends}
use Rattle.jc_rounds.specs.Underway.{AreRooms}
use Rattle.jc_bulk.specs.declared.carrying.CallEnd.{CallEnd}
use Rattle.jc_bulk.specs.declared.carrying.BulkRoom.{BulkRoom}
use Rattle.jc_bulk.specs.declared.outside.OutsideKind.{OutsideKind}
use Rattle.jc_bulk.specs.Bulk.{IsBulkCall}
use Rattle.jc_bulk.specs.Outside.{BulkBehavior, no_asks}
use Rattle.jc_bulk.specs.BulkRounds.{KeysAskAs}

pub record IsRoomOf (kind : OutsideKind) (keys stripes : ℕ) (room : BulkRoom) : Type 0 where
  pub rooms : AreRooms keys stripes room.rooms
  pub failed : room.failed.entries ≡ []
  pub space : keys ≤ spare room.failed
  pub outside : room.outside ≡ no_asks kind room.rooms.most

pub record IsRoomOfCall (targets : List (Bytes × Op)) (stripes : ℕ) (room : BulkRoom) : Type 0 where
  pub distinct : IsDistinct (pointwise ◌==◌) (keys_of targets)
  pub room_is : IsRoomOf room.outside.kind (length targets) stripes room
  pub asks : KeysAskAs room.outside.kind targets

-- `old` and `new` are the session before and after
pub record IsCallEnd {I J : Type 0} {D : I → Type 0} {E : J → Type 0} (behavior : BulkBehavior ((i : I) × D i) ((j : J) × E j))
    (cache : CacheState) (old : Session I J D E) (targets : List (Bytes × Op)) (end : CallEnd)
    (new : Session I J D E) : Type 0 where
  pub carried : IsBulkCall behavior cache old targets (key_ends targets end.progress.items) end.cause new
  pub failed : end.failed.entries ≡ failed_entries (key_ends targets end.progress.items)
  pub many : length end.progress.items ≡ length targets
