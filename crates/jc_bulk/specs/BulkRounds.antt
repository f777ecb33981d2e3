-- The rounds of a bulk call. No contract of a public function cites this.
--     KeysAskAs        each operation of the call asks outside by calls of this kind, if it asks at all
--     IsOutsideReady   the call outside that a round is to make: it has no asks yet, is of the call's kind, and has room for all
--                      keys that a round may reserve
--     TakesNew         a round of a call of this kind takes new memory after one that has asked: it writes or deletes, in a cache
--                      that writes through
--     RunsOn           rounds of a call, with these calls outside
use Rattle.std.specs.Prelude.{◌≡◌, ◌≤◌, ℕ, List, [], true, Some, slice_get}
use Rattle.jc_types.specs.declared.config.Config.{Config}
use Rattle.jc_model.specs.Cache.{Bytes}
use Rattle.jc_model.specs.declared.event.Op.{Op}
use Rattle.jc_cache.specs.Caches.{CacheState}
use Rattle.jc_session.specs.declared.session.Session.{Session}
use Rattle.jc_rounds.specs.declared.bulk_call.BulkCall.{BulkCall}
use Rattle.jc_rounds.specs.AskingRounds.{RunsRounds}
use Rattle.jc_rounds.specs.Targets.{ops_of}
use Rattle.jc_rounds.specs.Underway.{CallPast}
use Rattle.jc_bulk.specs.declared.outside.OutsideKind.{OutsideKind}
use Rattle.jc_bulk.specs.declared.outside.OutsideKind.TheVariants.{Load, Write, Delete}
use Rattle.jc_bulk.specs.Outside.{AsksAs, BulkBehavior, HaveAsked, OutsideState}

abbrev pub KeysAskAs : OutsideKind → List (Bytes × Op) → Type 0
KeysAskAs kind targets = (place : ℕ) (key : Bytes) (op : Op) → slice_get targets place ≡ Some (key, op) → AsksAs kind op

pub record IsOutsideReady (call : BulkCall) (outside : OutsideState) : Type 0 where
  pub none : outside.items ≡ []
  pub kind : KeysAskAs outside.kind (ops_of call.targets.now)
  pub room : call.most ≤ outside.room

abbrev pub TakesNew : OutsideKind → Config → Type 0
TakesNew Load config = ⊥
TakesNew Write config = config.write_through ≡ true
TakesNew Delete config = config.write_through ≡ true

abbrev pub RunsOn : {I J : Type 0} {D : I → Type 0} {E : J → Type 0} → BulkBehavior ((i : I) × D i) ((j : J) × E j) → CacheState
    → CallPast → Session I J D E → BulkCall → Session I J D E → BulkCall → Type 0
RunsOn behavior cache past old call new later = RunsRounds (HaveAsked behavior old new) cache past old call new later
